-- The four lists of a link, and how much of them a journal tells.
use Rattle.std.specs.Prelude.{ℕ, length}
use Rattle.base_words.specs.Filters.{accepted_orders, delivered_names, given_outcomes, collected_outcomes}
use Rattle.base_words.specs.Journal.{Journal}
use Rattle.judge_fronts.specs.declared.counts.Side.{Side}
use Rattle.judge_fronts.specs.declared.counts.Side.TheVariants.{Sent, Delivered, Given, Collected}

-- how long the list is that a journal tells
abbrev pub length_of : {T : Type 0} → Side → Journal T → ℕ
length_of (Sent core) journal = length (accepted_orders core journal)
length_of (Delivered sender) journal = length (delivered_names sender journal)
length_of (Given sender) journal = length (given_outcomes sender journal)
length_of (Collected core) journal = length (collected_outcomes core journal)
