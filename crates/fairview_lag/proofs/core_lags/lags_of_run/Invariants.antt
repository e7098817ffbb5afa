-- The pairs are those of the cores so far.
use Rattle.std.proofs.Common.{◌≡◌}
use Rattle.base_words.specs.Assembly.{journal_of}
use Rattle.fairview_marks.specs.Lists.{lists_below}
use Rattle.fairview_lag.specs.Pairs.{core_pairs}
use Rattle.fairview_lag.proofs.core_lags.lags_of_run.Given as goal

abbrev pub invariant-loop-core : goal.invariant-loop-core
invariant-loop-core l = l.pairs.items ≡ lists_below (λ core. core_pairs l.assembly.burst core (journal_of core l.assembly)) l.core
