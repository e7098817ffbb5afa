-- The pairs with the queues so far stand behind the others.
use Rattle.std.proofs.Common.{◌≡◌, ◌∷◌, ◌++◌, []}
use Rattle.fairview_marks.specs.Lists.{lists_below}
use Rattle.fairview_lag.specs.PairWalks.{idle}
use Rattle.fairview_lag.proofs.core_lags.push_idle_with.Given as goal

abbrev pub invariant-loop-first : goal.invariant-loop-first
invariant-loop-first l = l.pairs.items ≡ l.initial.pairs.items ++ lists_below (λ first. idle (first, l.second) ∷ []) l.first
