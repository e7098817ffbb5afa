-- Modes of queues and cores, what a further closing changes, gates, and when a core is drained.
use Rattle.std.specs.Prelude.{◌≡◌, ℕ, ◌==◌, if◌then◌else◌, Bool, true, false, Option, Some, None, IsTrue, [], length, ◌≤◌, ◌<◌, ◌^◌}
use Rattle.std.specs.Option.{IsSome}
use Rattle.base_words.specs.declared.note.Note.{Note}
use Rattle.base_words.specs.declared.note.Note.TheVariants.{QueueClosed, CoreClosed, Shut}
use Rattle.base_words.specs.declared.order.Mode.{Mode}
use Rattle.base_words.specs.declared.order.Mode.TheVariants.{Finish, Return}
use Rattle.base_words.specs.Journal.{Journal, latest_told}
use Rattle.base_words.specs.Filters.{delivered_names}
use Rattle.base_words.specs.Parks.{parked}
use Rattle.base_words.specs.Work.{has_work}

-- the mode in which a note closes this queue
abbrev pub mode_told : {T : Type 0} → ℕ → Note T → Option Mode
mode_told queue (QueueClosed other mode) = if queue == other then Some mode else None
mode_told queue _ = None

-- the mode in which a note closes the core
abbrev pub core_mode_told : {T : Type 0} → Note T → Option Mode
core_mode_told (CoreClosed mode) = Some mode
core_mode_told _ = None

-- the final count with which a note shuts the gate of this sender
abbrev pub count_told : {T : Type 0} → ℕ → Note T → Option ℕ
count_told sender (Shut other count) = if sender == other then Some count else None
count_told sender _ = None

-- the mode of a queue, if it is closed
abbrev pub queue_mode : {T : Type 0} → ℕ → Journal T → Option Mode
queue_mode queue = latest_told (mode_told queue)

-- the mode of the core, if it is closed
abbrev pub core_mode : {T : Type 0} → Journal T → Option Mode
core_mode = latest_told core_mode_told

-- the final count of a gate, if it is shut
abbrev pub final_count : {T : Type 0} → ℕ → Journal T → Option ℕ
final_count sender = latest_told (count_told sender)

-- whether a closing changes anything: it closes what is open, and `Return` replaces `Finish`
abbrev pub closes : Option Mode → Mode → Bool
closes None mode = true
closes (Some Finish) Return = true
closes (Some _) _ = false

-- what comes through a shut gate is within its count
abbrev pub IsCounted : Option ℕ → ℕ → Type 0
IsCounted None number = Unit {0}
IsCounted (Some count) number = number ≤ count

-- the core is closed and the gate of this actor isn't shut, and its count is no less than what was delivered
pub record IsNextShut {T : Type 0} (cores sender count : ℕ) (before : Journal T) : Type 0 where
  pub closed : IsSome (core_mode before)
  pub not_shut : final_count sender before ≡ None
  pub known : sender ≤ cores
  pub delivered : length (delivered_names sender before) ≤ count
  pub in_range : count < 2 ^ 63

-- every gate is shut and all behind it delivered, no queue has work, and no job is parked
pub record IsDrained {T : Type 0} (cores : ℕ) (journal : Journal T) : Type 0 where
  pub delivered_all : (sender : ℕ) → sender ≤ cores → final_count sender journal ≡ Some (length (delivered_names sender journal))
  pub idle : (queue : ℕ) → IsTrue (has_work queue journal) → ⊥
  pub nobody_parked : (queue : ℕ) → parked queue journal ≡ []
