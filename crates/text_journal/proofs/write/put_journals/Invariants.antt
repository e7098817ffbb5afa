-- The journals of the actors so far are put.
use Rattle.std.specs.Prelude.{string_bytes}
use Rattle.text_journal.specs.Pages.{Puts}
use Rattle.text_bytes.specs.Tries.{IsNoFewer}
use Rattle.text_journal.proofs.LineLemmas.{front_journals}
use Rattle.text_journal.proofs.write.put_journals.Given as goal

abbrev pub invariant-loop-actor : goal.invariant-loop-actor
invariant-loop-actor g l = record {
  puts : Puts (string_bytes l.initial.page) (string_bytes l.page) (g.S.ByteSink.contents l.initial.sink) (g.S.ByteSink.contents l.sink) (front_journals l.assembly.journals l.actor);
  tried : IsNoFewer (g.S.ByteSink.tries l.initial.sink) (g.S.ByteSink.tries l.sink);
}
