-- Whether there is room for a script's orders, as the outside journal counts them.
use Rattle.std.specs.Prelude.{◌≡◌, ℕ, ◌+◌, ◌-◌, ◌<◌, ◌≤◌, true, length}
use Rattle.base_words.specs.Filters.{accepted_orders}
use Rattle.base_words.specs.Limits.{most_capacity, most_cores}
use Rattle.base_jobs.specs.Scripts.{Script}
use Rattle.run_runtime.specs.State.{RuntimeView, closing_at}
use Rattle.fairexec_threads.specs.Accepted.{room_of}
use Rattle.fairexec_script.specs.TextLimits.{most_lines}

-- how many submissions were sent to a core
abbrev pub sent_to : ℕ → RuntimeView Script ℕ → ℕ
sent_to core view = length (accepted_orders core view.desk.journal.notes)

-- the runtime of a script
pub record IsOfScript (view : RuntimeView Script ℕ) : Type 0 where
  pub some_cores : 1 ≤ view.desk.cores
  pub few_cores : view.desk.cores ≤ most_cores
  pub small_cap : view.desk.cap ≤ most_capacity
  pub room : view.desk.journal.room ≡ room_of view.desk.cores view.desk.cap view.desk.burst
  pub closings : length view.closing ≡ view.desk.cores

-- There is room for one order more to this core, whatever became of those before: no outcome is ever collected. A note stands of each line of the script
-- and of each closing but this one, at most.
pub record HasPlace (core : ℕ) (view : RuntimeView Script ℕ) : Type 0 where
  pub of_script : IsOfScript view
  pub notes : length view.desk.journal.notes ≤ most_lines + most_cores - 1
  pub each : (other : ℕ) → sent_to other view ≤ view.desk.cap
  pub here : sent_to core view < view.desk.cap

-- there is room for the order that closes each core, behind a note of each line of the script at most
pub record CanClose (view : RuntimeView Script ℕ) : Type 0 where
  pub of_script : IsOfScript view
  pub notes : length view.desk.journal.notes ≤ most_lines
  pub each : (core : ℕ) → sent_to core view < view.desk.cap

-- the first cores are closed
abbrev pub AreClosedBelow : ℕ → RuntimeView Script ℕ → Type 0
AreClosedBelow count view = (core : ℕ) → core < count → closing_at core view ≡ true
