-- Each note so far is one that the actor may write.
use Rattle.std.proofs.Common.{take}
use Rattle.std.specs.Prelude.{All}
use Rattle.base_words.specs.Spelled.{IsSpelledNote}
use Rattle.note_journal.specs.Writers.{terms_seen}
use Rattle.text_parts.proofs.parts.are_spelled.Given as goal

abbrev pub invariant-loop-note : goal.invariant-loop-note
invariant-loop-note l = All (IsSpelledNote (terms_seen l.writer)) (take l.note-index l.notes)
