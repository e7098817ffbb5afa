-- Counts of cores and queues, as the host reads them.
use Rattle.std.specs.Prelude.{◌≡◌, ℕ, ◌+◌, ◌*◌, ◌^◌, Option, Some, None}
use Rattle.base_words.specs.declared.order.Mode.{Mode}
use Rattle.base_words.specs.declared.order.Mode.TheVariants.{Finish, Return}
use Rattle.base_words.specs.declared.stats.QueueStats.{QueueStats}
use Rattle.host_calls.specs.declared.figures.QueueFigures.{QueueFigures}

-- two halves of 64 bits, the low one first
abbrev pub whole : ℕ → ℕ → ℕ
whole low high = low + high * 2 ^ 64

-- 0 for an open core, else 1 and the number of its mode
abbrev pub closed_number : Option Mode → ℕ
closed_number None = 0
closed_number (Some Finish) = 1
closed_number (Some Return) = 2

-- these are the numbers of a queue
pub record AreFiguresOf (stats : QueueStats) (figures : QueueFigures) : Type 0 where
  pub size : figures.size ≡ 72
  pub shares : figures.shares ≡ stats.shares
  pub picks : figures.picks ≡ stats.selected
  pub waiting : figures.waiting ≡ stats.waiting
  pub done : figures.done ≡ stats.finished
  pub back : figures.back ≡ stats.returned
  pub time : whole figures.time_low figures.time_high ≡ stats.runtime
  pub standing : whole figures.virtual_low figures.virtual_high ≡ stats.virtual_runtime
