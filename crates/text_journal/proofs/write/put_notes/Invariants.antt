-- The notes so far are put.
use Rattle.std.specs.Prelude.{string_bytes}
use Rattle.text_journal.specs.Pages.{Puts}
use Rattle.text_bytes.specs.Tries.{IsNoFewer}
use Rattle.text_journal.proofs.LineLemmas.{front_text}
use Rattle.text_journal.proofs.write.put_notes.Given as goal

abbrev pub invariant-loop-note : goal.invariant-loop-note
invariant-loop-note g l = record {
  puts : Puts (string_bytes l.initial.page) (string_bytes l.page) (g.S.ByteSink.contents l.initial.sink) (g.S.ByteSink.contents l.sink) (front_text l.actor l.note-items l.note-index);
  tried : IsNoFewer (g.S.ByteSink.tries l.initial.sink) (g.S.ByteSink.tries l.sink);
}
