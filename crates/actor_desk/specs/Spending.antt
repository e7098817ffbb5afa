-- How many notes an actor can make of its submissions before it collects again, and how many are due.
use Rattle.std.specs.Prelude.{◌≡◌, ℕ, ◌+◌, ◌-◌, ◌*◌, ◌<◌, Bool, true, false, Some, slice_get, slice_set, length, sum_by, IsSome}
use Rattle.base_words.specs.declared.names.JobId.{JobId}
use Rattle.actor_desk.specs.Held.{at, tally}
use Rattle.actor_desk.specs.Lanes.{Lane, is_collected, is_detached}
use Rattle.actor_desk.specs.declared.entry.Entry.{Entry}
use Rattle.actor_desk.specs.declared.entry.Entry.TheVariants as entry
use Rattle.actor_desk.specs.Submissions.{DeskView}

module _ {J T : Type 0} where
  -- whether a submission waits for its outcome
  abbrev pub is_waiting : Entry J T → Bool
  is_waiting entry.Pending = true
  is_waiting entry.Detached = false
  is_waiting (entry.Collected outcome) = false

  -- how many notes can be made of the submissions of a lane before the next outcome is collected:
  -- two for each free place (it is sent and detached), one for each that waits, and three for each that was collected (it is redeemed, sent again and detached)
  abbrev pub left_of : Lane J T → ℕ
  left_of lane = 2 * lane.room + tally lane.entries is_collected - (tally lane.entries is_waiting + 2 * tally lane.entries is_detached)

  -- how many notes are due of what is outstanding in a lane:
  -- two of each that waits (it is collected, and redeemed or detached), one of each other
  abbrev pub due_of : Lane J T → ℕ
  due_of lane = 2 * tally lane.entries is_waiting + tally lane.entries is_collected + tally lane.entries is_detached

  -- the notes that were made, and those that are due
  abbrev pub booked : DeskView J T → ℕ
  booked desk = length desk.journal.notes + sum_by due_of desk.lanes

  -- a note was made, so fewer can be made; with it, so many more are booked
  pub record Spends (core more : ℕ) (old new : DeskView J T) : Type 0 where
    pub lane : Lane J T
    pub later : Lane J T
    pub was : slice_get old.lanes core ≡ Some lane
    pub lanes : new.lanes ≡ slice_set old.lanes core later
    pub fewer : left_of later < left_of lane
    pub due : due_of later + 1 ≡ due_of lane + more

  -- the submission of this name is outstanding
  abbrev pub HoldsSome : JobId → DeskView J T → Type 0
  HoldsSome name desk = (lane : Lane J T) × (slice_get desk.lanes name.to ≡ Some lane) × IsSome (at lane.entries name.number)
