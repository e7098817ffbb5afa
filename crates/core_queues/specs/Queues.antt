-- What the calls do to the task queues of a core.
use Rattle.std.specs.Prelude.{◌≡◌, ℕ, ◌+◌, Some, length}
use Rattle.base_words.specs.declared.order.Mode.{Mode}
pub use Rattle.core_queues.specs.View.{Marks, Line, Parks, QueueView, QueuesView, no_queue, queue_count, shares_of, mode_of, waiting_of, parked_of, held_in, held_count, awake, first_queue, IsWithinLimits}
pub use Rattle.core_queues.specs.Parks.{ChangesParks, Moves}

module _ {J : Type 0} where
  -- only the line of this queue changes, to this list
  pub record ChangesLine (old new : QueuesView J) (queue : ℕ) (line : Line J) : Type 0 where
    pub changed : waiting_of queue new ≡ line
    pub others : (other : ℕ) → (other ≡ queue → ⊥) → waiting_of other new ≡ waiting_of other old
    pub same_shares : (other : ℕ) → shares_of other new ≡ shares_of other old
    pub same_modes : (other : ℕ) → mode_of other new ≡ mode_of other old
    pub same_parks : (other : ℕ) → parked_of other new ≡ parked_of other old
    pub same_count : queue_count new ≡ queue_count old
    pub same_room : new.room ≡ old.room
    pub held : held_count new + length (waiting_of queue old) ≡ held_count old + length line

  -- only the shares of this queue change, to this number
  pub record ChangesShares (old new : QueuesView J) (queue shares : ℕ) : Type 0 where
    pub changed : shares_of queue new ≡ shares
    pub others : (other : ℕ) → (other ≡ queue → ⊥) → shares_of other new ≡ shares_of other old
    pub same_modes : (other : ℕ) → mode_of other new ≡ mode_of other old
    pub same_lines : (other : ℕ) → waiting_of other new ≡ waiting_of other old
    pub same_parks : (other : ℕ) → parked_of other new ≡ parked_of other old
    pub same_count : queue_count new ≡ queue_count old
    pub same_room : new.room ≡ old.room
    pub same_held : held_count new ≡ held_count old

  -- only the mode of this queue changes, to this one
  pub record ChangesMode (old new : QueuesView J) (queue : ℕ) (mode : Mode) : Type 0 where
    pub changed : mode_of queue new ≡ Some mode
    pub others : (other : ℕ) → (other ≡ queue → ⊥) → mode_of other new ≡ mode_of other old
    pub same_shares : (other : ℕ) → shares_of other new ≡ shares_of other old
    pub same_lines : (other : ℕ) → waiting_of other new ≡ waiting_of other old
    pub same_parks : (other : ℕ) → parked_of other new ≡ parked_of other old
    pub same_count : queue_count new ≡ queue_count old
    pub same_room : new.room ≡ old.room
    pub same_held : held_count new ≡ held_count old

  -- an open queue with these shares and no job comes after the old ones, which stay as they were
  pub record AddsQueue (old new : QueuesView J) (queue shares : ℕ) : Type 0 where
    pub number : queue ≡ queue_count old
    pub count : queue_count new ≡ queue_count old + 1
    pub given : shares_of queue new ≡ shares
    pub others : (other : ℕ) → (other ≡ queue → ⊥) → shares_of other new ≡ shares_of other old
    pub same_modes : (other : ℕ) → mode_of other new ≡ mode_of other old
    pub same_lines : (other : ℕ) → waiting_of other new ≡ waiting_of other old
    pub same_parks : (other : ℕ) → parked_of other new ≡ parked_of other old
    pub same_room : new.room ≡ old.room
    pub same_held : held_count new ≡ held_count old
