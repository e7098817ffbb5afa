-- What a walk over the journal of a core knows of each two of its queues.
use Rattle.std.specs.Prelude.{◌≡◌, ℕ, None, Option, List, [], ◌∷◌, map}
use Rattle.base_words.specs.Journal.{Journal}
use Rattle.fairview_marks.specs.Leads.{KnowsStanding}
use Rattle.fairview_marks.specs.Lists.{lists_below, one_of}
use Rattle.fairview_lag.specs.Lags.{greatest_lag}
use Rattle.fairview_lag.specs.Pairs.{pair_of, queue_count}
use Rattle.fairview_lag.specs.Stretches.{begun}
use Rattle.fairview_lag.specs.declared.core_lags.CoreLags.{CoreLags}
use Rattle.fairview_lag.specs.declared.pair_walk.PairWalk.{PairWalk}
use Rattle.fairview_lag.specs.declared.pairs.PairLag.{PairLag}

-- a queue with each queue of a lower number, which stands first
abbrev pub names_with : ℕ → List (ℕ × ℕ)
names_with second = lists_below (λ first. (first, second) ∷ []) second

-- each two of the queues below this number
abbrev pub names_below : ℕ → List (ℕ × ℕ)
names_below count = lists_below names_with count

-- two queues that never had work at once
abbrev pub idle : ℕ × ℕ → PairWalk
idle names = record { first = names.0; second = names.1; begun = None; greatest = None }

-- a queue that no job entered with each queue of a lower number
abbrev pub idle_with : ℕ → List PairWalk
idle_with second = lists_below (λ first. idle (first, second) ∷ []) second

-- two queues as these notes tell of them, if a turn may have so many polls
abbrev pub pair_known : {T : Type 0} → ℕ → Journal T → ℕ × ℕ → PairWalk
pair_known burst journal names =
    record { first = names.0; second = names.1; begun = begun burst names.0 names.1 journal; greatest = greatest_lag burst names.0 names.1 journal }

-- each two of the queues below this number
abbrev pub pairs_known : {T : Type 0} → ℕ → ℕ → Journal T → List PairWalk
pairs_known burst count journal = map (pair_known burst journal) (names_below count)

-- the greatest lag of two queues of a core, if they have any
abbrev pub pair_lag : ℕ → PairWalk → Option PairLag
pair_lag core pair = pair_of core pair.first pair.second pair.greatest

-- the same as a list
abbrev pub lags_of : ℕ → PairWalk → List PairLag
lags_of core pair = one_of (pair_lag core pair)

-- the queues, and each two of them up to the last one that a job entered, are known as these notes tell of them, if a turn may have so many polls
pub record KnowsLags {T : Type 0} (burst : ℕ) (lags : CoreLags) (journal : Journal T) : Type 0 where
  pub standing : KnowsStanding burst lags.standing journal
  pub count : lags.count ≡ queue_count journal
  pub pairs : lags.pairs.items ≡ pairs_known burst (queue_count journal) journal

-- the same is known of the queues, and of each two of them
pub record IsSame (old new : CoreLags) : Type 0 where
  pub standing : new.standing ≡ old.standing
  pub count : new.count ≡ old.count
  pub pairs : new.pairs.items ≡ old.pairs.items
