-- What a core of a house tells of itself in numbers: sums over its journal.
use Rattle.std.specs.Prelude.{◌≡◌, ℕ, ◌+◌, ◌*◌, ◌^◌, ◌<◌, ◌≤◌, false, Option, Some, None, is_some, length}
use Rattle.base_words.specs.declared.stats.QueueStats.{QueueStats}
use Rattle.base_words.specs.Commands.{created_count}
use Rattle.base_words.specs.Journal.{Journal}
use Rattle.base_words.specs.Work.{number_if}
use Rattle.actor_core.specs.Stats.{TellsQueue}
use Rattle.base_words.specs.Stats.{core_stats}
use Rattle.host_core.specs.Hosted.{HostedView}
use Rattle.host_calls.specs.declared.code.Code.{Code}
use Rattle.host_calls.specs.declared.code.Code.TheVariants as code
use Rattle.host_calls.specs.declared.figures.CoreFigures.{CoreFigures}
use Rattle.host_calls.specs.declared.figures.QueueFigures.{QueueFigures}
use Rattle.host_calls.specs.Figures.{AreFiguresOf, closed_number, whole}

-- 1 while the host runs a job of the core, else 0
abbrev pub running_number : HostedView → ℕ
running_number view = number_if (is_some view.recorded.core.out)

-- a statement on the queues of a core whose journal has fewer than 2^64 notes
abbrev pub IfCounted : HostedView → Type 0 → Type 0
IfCounted view holds = length view.recorded.journal.notes < 2 ^ 64 → holds

-- these are the numbers of the core
pub record AreSeatFigures (view : HostedView) (figures : CoreFigures) : Type 0 where
  pub size : figures.size ≡ 56
  pub queues : IfCounted view (figures.queues ≡ created_count view.recorded.journal.notes + 1)
  pub room : figures.room ≡ (view.recorded.core.cores + 1) * view.recorded.cap
  pub held : figures.held ≡ (core_stats false view.recorded.journal.notes).held
  pub turns : figures.turns ≡ (core_stats false view.recorded.journal.notes).turns
  pub floor : whole figures.floor_low figures.floor_high ≡ (core_stats false view.recorded.journal.notes).floor
  pub running : figures.running ≡ running_number view
  pub closed : figures.closed ≡ closed_number view.recorded.core.mode

-- they are told; a struct of another size stays as it was
abbrev pub SeatTells : HostedView → CoreFigures → Code → CoreFigures → Type 0
SeatTells view before code.Ok after = (before.size ≡ 56) × AreSeatFigures view after
SeatTells view before code.BadNumber after = (before.size ≡ 56 → ⊥) × (after ≡ before)
SeatTells view before other after = ⊥

-- the counts of a queue by these notes, if there is one of this number
abbrev pub IsToldOf : ℕ → Journal ℕ → ℕ → Option QueueStats → Type 0
IsToldOf burst notes queue (Some stats) = (queue ≤ created_count notes) × TellsQueue burst queue notes stats
IsToldOf burst notes queue None = created_count notes < queue

-- those of a queue of this core
abbrev pub IsSeatStatsOf : HostedView → ℕ → Option QueueStats → Type 0
IsSeatStatsOf view queue told = IfCounted view (IsToldOf view.recorded.core.bursts.burst view.recorded.journal.notes queue told)

-- they are told; a struct of another size stays as it was
abbrev pub SeatTellsQueue : HostedView → ℕ → QueueFigures → Code → QueueFigures → Type 0
SeatTellsQueue view queue before code.Ok after = (before.size ≡ 72) × ((stats : QueueStats) × IsSeatStatsOf view queue (Some stats) × AreFiguresOf stats after)
SeatTellsQueue view queue before code.BadNumber after = (before.size ≡ 72 → ⊥) × (after ≡ before)
SeatTellsQueue view queue before code.NoQueue after = (before.size ≡ 72) × IsSeatStatsOf view queue None × (after ≡ before)
SeatTellsQueue view queue before other after = ⊥
