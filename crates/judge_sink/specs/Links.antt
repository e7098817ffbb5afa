-- What is kept of the notes before: what they tell of the core's links.
use Rattle.std.specs.Prelude.{◌≡◌, ℕ, ◌-◌, ◌^◌, true, None, length, min, slice_index_or}
use Rattle.std.specs.Option.{IsSome}
use Rattle.base_words.specs.Closing.{core_mode, final_count}
use Rattle.base_words.specs.Filters.{accepted_orders, delivered_names}
use Rattle.base_words.specs.Journal.{Journal}
use Rattle.judge_sink.specs.declared.links.Links.{Links}

-- a number that is counted as long as the count goes
abbrev pub counted : ℕ → ℕ
counted count = min count (2 ^ 64 - 1)

-- whether the core is closed, how many orders it sent to itself and were delivered of each sender, and the count of each gate that is shut
pub record KnowsLinks (links : Links) (before : Journal ℕ) : Type 0 where
  pub closed : links.closed ≡ true → IsSome (core_mode before)
  pub sent : links.sent ≡ counted (length (accepted_orders links.core before))
  pub delivered : (sender : ℕ) → slice_index_or links.delivered sender 0 ≡ counted (length (delivered_names sender before))
  pub counts : (sender : ℕ) → slice_index_or links.counts sender None ≡ final_count sender before
