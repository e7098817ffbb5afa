-- The statistics of the cores so far stand behind what the page had.
use Rattle.std.proofs.Common.{string_bytes}
use Rattle.text_bytes.specs.Tries.{IsNoFewer}
use Rattle.fairexec_run.proofs.RearLemmas.{HasStats}
use Rattle.fairexec_run.proofs.journal.print_stats.Given as goal

abbrev pub invariant-loop-core : goal.invariant-loop-core
invariant-loop-core g l = record {
  stats : HasStats (g.T.HasCores.assembly l.told) l.core (string_bytes l.initial.page) (string_bytes l.page) (g.S.ByteSink.contents l.initial.sink) (g.S.ByteSink.contents l.sink);
  tried : IsNoFewer (g.S.ByteSink.tries l.initial.sink) (g.S.ByteSink.tries l.sink);
}
