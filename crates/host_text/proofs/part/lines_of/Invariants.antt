-- The lines of the notes so far are the text.
use Rattle.std.proofs.Common.{◌≡◌, take, map}
use Rattle.std.specs.Prelude.{string_bytes}
use Rattle.text_words.specs.Notes.{note_line}
use Rattle.text_journal.specs.Texts.{text_of}
use Rattle.host_text.proofs.part.lines_of.Given as goal

abbrev pub invariant-loop-note : goal.invariant-loop-note
invariant-loop-note l = string_bytes l.text ≡ text_of (map (note_line l.actor) (take l.note-index l.notes))
