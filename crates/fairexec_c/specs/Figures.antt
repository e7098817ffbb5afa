-- What a core tells of itself in numbers.
use Rattle.std.specs.Prelude.{◌≡◌, ℕ, ◌<◌, ◌≤◌, Option, Some, None, is_some}
use Rattle.base_words.specs.declared.stats.QueueStats.{QueueStats}
use Rattle.base_words.specs.Work.{number_if}
use Rattle.core_queues.specs.Queues.{queue_count}
use Rattle.core_core.specs.State.{CoreView, inside_count}
use Rattle.core_core.specs.Figures.{queue_stats}
use Rattle.host_calls.specs.declared.code.Code.{Code}
use Rattle.host_calls.specs.declared.code.Code.TheVariants as code
use Rattle.host_calls.specs.declared.figures.CoreFigures.{CoreFigures}
use Rattle.host_calls.specs.declared.figures.QueueFigures.{QueueFigures}
use Rattle.host_calls.specs.Figures.{AreFiguresOf, closed_number, whole}
use Rattle.host_core.specs.declared.job.HostJob.{HostJob}

-- these are the numbers of the core
pub record AreCoreFigures (view : CoreView HostJob) (figures : CoreFigures) : Type 0 where
  pub size : figures.size ≡ 56
  pub queues : figures.queues ≡ queue_count view.queues
  pub room : figures.room ≡ view.queues.room
  pub held : figures.held ≡ inside_count view
  pub turns : figures.turns ≡ view.turns
  pub floor : whole figures.floor_low figures.floor_high ≡ view.floor
  pub running : figures.running ≡ number_if (is_some view.out)
  pub closed : figures.closed ≡ closed_number view.mode

-- the counts of a queue, if there is one of this number
abbrev pub IsStatsOf : CoreView HostJob → ℕ → Option QueueStats → Type 0
IsStatsOf view queue (Some stats) = (queue < queue_count view.queues) × (stats ≡ queue_stats queue view)
IsStatsOf view queue None = queue_count view.queues ≤ queue

-- the numbers of a core are told; a struct of another size stays as it was
abbrev pub TellsCore : CoreView HostJob → CoreFigures → Code → CoreFigures → Type 0
TellsCore view before code.Ok after = (before.size ≡ 56) × AreCoreFigures view after
TellsCore view before code.BadNumber after = (before.size ≡ 56 → ⊥) × (after ≡ before)
TellsCore view before other after = ⊥

-- so are those of a queue
abbrev pub TellsQueue : CoreView HostJob → ℕ → QueueFigures → Code → QueueFigures → Type 0
TellsQueue view queue before code.Ok after = (before.size ≡ 72) × (queue < queue_count view.queues) × AreFiguresOf (queue_stats queue view) after
TellsQueue view queue before code.BadNumber after = (before.size ≡ 72 → ⊥) × (after ≡ before)
TellsQueue view queue before code.NoQueue after = (before.size ≡ 72) × (queue_count view.queues ≤ queue) × (after ≡ before)
TellsQueue view queue before other after = ⊥
