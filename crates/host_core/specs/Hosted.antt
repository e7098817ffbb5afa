-- A core beside its ends, and the job of it that the host runs.
use Rattle.std.specs.Prelude.{◌≡◌, ℕ, ◌+◌, ◌≤◌, false, Option, Some, None, [], length, is_some}
use Rattle.base_words.specs.Bursts.{queue_in_turn}
use Rattle.base_words.specs.Commands.{IsOpening}
use Rattle.base_words.specs.Work.{number_if}
use Rattle.core_core.specs.State.{JobOut}
use Rattle.actor_core.specs.Recorded.{RecordedView, IsRecorded}
use Rattle.link_ends.specs.Fits.{Fits}
use Rattle.actor_seat.specs.Linked.{LinkedView, AreBeside}
use Rattle.host_core.specs.declared.job.HostJob.{HostJob}
use Rattle.host_core.specs.declared.turns.Run.{Run}
use Rattle.host_core.specs.Jobs.{host_meaning}

-- the core beside its journal, and its ends
abbrev pub HostedView : Type 0
HostedView = LinkedView HostJob ℕ

-- the job that the host runs is the one that is out, under its name, and it isn't done
abbrev pub IsRunOf : Option (JobOut HostJob) → Option Run → Type 0
IsRunOf None None = Unit {0}
IsRunOf (Some out) (Some run) = (out.name ≡ run.name) × (out.job ≡ run.job) × (run.job.ended ≡ false)
IsRunOf None (Some run) = ⊥
IsRunOf (Some out) None = ⊥

-- the notes that are kept free, so that the job that is out can be settled
abbrev pub kept_free : RecordedView HostJob ℕ → ℕ
kept_free view = number_if (is_some view.core.out)

-- there is room for so many notes beside those
abbrev pub HasRoom : ℕ → RecordedView HostJob ℕ → Type 0
HasRoom count view = length view.journal.notes + kept_free view + count ≤ view.journal.room

-- nothing was noted but creations at the opening, all of them are kept, and there is room for one more
pub record MayCreate (view : RecordedView HostJob ℕ) : Type 0 where
  pub none_passed : view.journal.passed ≡ []
  pub opening : IsOpening view.journal.notes
  pub room : HasRoom 1 view

-- the core is recorded, its ends are what its journal says of them, and a job that is out can be settled
pub record IsHosted (view : HostedView) : Type 0 where
  pub recorded : IsRecorded host_meaning view.recorded
  pub beside : AreBeside (Fits host_meaning) view.recorded view.ends
  pub room : HasRoom 0 view.recorded

-- the host runs no job of the core, and no turn of it is open
pub record IsAtRest (view : RecordedView HostJob ℕ) : Type 0 where
  pub nobody_out : view.core.out ≡ None
  pub no_turn : queue_in_turn view.core.bursts.burst view.journal.notes ≡ None
