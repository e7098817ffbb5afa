-- What becomes of the parked jobs of a queue.
use Rattle.std.specs.Prelude.{◌≡◌, ℕ, ◌+◌, length}
use Rattle.core_queues.specs.View.{Line, Parks, QueuesView, queue_count, shares_of, mode_of, waiting_of, parked_of, held_count}

module _ {J : Type 0} where
  -- only the line and the parked jobs of this queue change, to these, and what is held stays
  pub record Moves (old new : QueuesView J) (queue : ℕ) (line : Line J) (parks : Parks J) : Type 0 where
    pub waits : waiting_of queue new ≡ line
    pub parks_left : parked_of queue new ≡ parks
    pub others : (other : ℕ) → (other ≡ queue → ⊥) → waiting_of other new ≡ waiting_of other old
    pub other_parks : (other : ℕ) → (other ≡ queue → ⊥) → parked_of other new ≡ parked_of other old
    pub same_shares : (other : ℕ) → shares_of other new ≡ shares_of other old
    pub same_modes : (other : ℕ) → mode_of other new ≡ mode_of other old
    pub same_count : queue_count new ≡ queue_count old
    pub same_room : new.room ≡ old.room
    pub same_held : held_count new ≡ held_count old

  -- only the parked jobs of this queue change, to these
  pub record ChangesParks (old new : QueuesView J) (queue : ℕ) (parks : Parks J) : Type 0 where
    pub changed : parked_of queue new ≡ parks
    pub others : (other : ℕ) → (other ≡ queue → ⊥) → parked_of other new ≡ parked_of other old
    pub same_shares : (other : ℕ) → shares_of other new ≡ shares_of other old
    pub same_modes : (other : ℕ) → mode_of other new ≡ mode_of other old
    pub same_lines : (other : ℕ) → waiting_of other new ≡ waiting_of other old
    pub same_count : queue_count new ≡ queue_count old
    pub same_room : new.room ≡ old.room
    pub held : held_count new + length (parked_of queue old) ≡ held_count old + length parks
