-- The lags of the pairs so far stand behind the others.
use Rattle.std.proofs.Common.{◌≡◌, ◌++◌, take}
use Rattle.std.specs.Prelude.{flat_map}
use Rattle.fairview_lag.specs.PairWalks.{lags_of}
use Rattle.fairview_lag.proofs.core_lags.push_all.Given as goal

abbrev pub invariant-loop-pair : goal.invariant-loop-pair
invariant-loop-pair l = l.pairs.items ≡ l.initial.pairs.items ++ flat_map (lags_of l.core) (take l.pair-index l.known)
