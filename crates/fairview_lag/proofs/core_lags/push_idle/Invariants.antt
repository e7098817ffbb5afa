-- The pairs are those of the queues so far, if they were those of the queues before. What was there stays in front.
use Rattle.std.proofs.Common.{◌≡◌, ℕ, ◌≤◌, max}
use Rattle.base_words.specs.Assembly.{IsPrefix}
use Rattle.base_words.specs.Journal.{Journal}
use Rattle.fairview_lag.specs.Pairs.{queue_count}
use Rattle.fairview_lag.specs.PairWalks.{pairs_known}
use Rattle.fairview_lag.proofs.core_lags.push_idle.Given as goal

abbrev pub invariant-loop-second : goal.invariant-loop-second
invariant-loop-second l = record {
  within : l.second ≤ max l.from l.to;
  known :
      (burst : ℕ) (before : Journal ℕ) → l.from ≡ queue_count before → l.initial.pairs.items ≡ pairs_known burst l.from before →
      l.pairs.items ≡ pairs_known burst l.second before;
  front : IsPrefix l.initial.pairs.items l.pairs.items;
}
