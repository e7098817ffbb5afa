-- The task queues of a core with their slips: the words on queues, said of queues each of which has its slip or has given it out.
use Rattle.std.specs.Prelude.{◌≡◌, ℕ, Bool, true, false, Option, None, List, [], ◌∷◌, ◌++◌, slice_index_or, slice_set}
use Rattle.base_words.specs.declared.order.Mode.{Mode}
use Rattle.core_queues.specs.Queues.{Line, Parks, QueueView, QueuesView}
use Rattle.core_queues.specs.Queues as plain

-- all queues by number, for how many jobs there is room, and for each queue whether its slip is with it
pub record SlippedView (J : Type 0) : Type 0 where
  pub queues : List (QueueView J)
  pub room : ℕ
  pub slips : List Bool

module _ {J : Type 0} where
  -- the queues without their slips
  abbrev pub queues_alone : SlippedView J → QueuesView J
  queues_alone view = record { queues = view.queues; room = view.room }

  -- whether a queue's slip is with it
  abbrev pub has_slip : ℕ → SlippedView J → Bool
  has_slip queue view = slice_index_or view.slips queue false

  -- a queue's slip is given out, and nothing else changes
  abbrev pub without_slip : ℕ → SlippedView J → SlippedView J
  without_slip queue view = record view { slips = slice_set view.slips queue false }

  -- a queue's slip comes back, and nothing else changes
  abbrev pub with_slip : ℕ → SlippedView J → SlippedView J
  with_slip queue view = record view { slips = slice_set view.slips queue true }

  abbrev pub queue_count : SlippedView J → ℕ
  queue_count view = plain.queue_count (queues_alone view)

  abbrev pub shares_of : ℕ → SlippedView J → ℕ
  shares_of queue view = plain.shares_of queue (queues_alone view)

  abbrev pub mode_of : ℕ → SlippedView J → Option Mode
  mode_of queue view = plain.mode_of queue (queues_alone view)

  abbrev pub waiting_of : ℕ → SlippedView J → Line J
  waiting_of queue view = plain.waiting_of queue (queues_alone view)

  abbrev pub parked_of : ℕ → SlippedView J → Parks J
  parked_of queue view = plain.parked_of queue (queues_alone view)

  abbrev pub held_count : SlippedView J → ℕ
  held_count view = plain.held_count (queues_alone view)

  -- the first queue, with its slip
  abbrev pub first_queue : ℕ → SlippedView J
  first_queue room = record { queues = record { shares = 1000; mode = None; waiting = []; parked = [] } ∷ []; room = room; slips = true ∷ [] }

  abbrev pub IsWithinLimits : SlippedView J → Type 0
  IsWithinLimits view = plain.IsWithinLimits (queues_alone view)

  -- only the line of this queue changes, to this list, and no slip moves
  pub record ChangesLine (old new : SlippedView J) (queue : ℕ) (line : Line J) : Type 0 where
    pub queues : plain.ChangesLine (queues_alone old) (queues_alone new) queue line
    pub slips : new.slips ≡ old.slips

  -- only the shares of this queue change, to this number, and no slip moves
  pub record ChangesShares (old new : SlippedView J) (queue shares : ℕ) : Type 0 where
    pub queues : plain.ChangesShares (queues_alone old) (queues_alone new) queue shares
    pub slips : new.slips ≡ old.slips

  -- only the mode of this queue changes, to this one, and no slip moves
  pub record ChangesMode (old new : SlippedView J) (queue : ℕ) (mode : Mode) : Type 0 where
    pub queues : plain.ChangesMode (queues_alone old) (queues_alone new) queue mode
    pub slips : new.slips ≡ old.slips

  -- an open queue with these shares and no job comes after the old ones, with its slip
  pub record AddsQueue (old new : SlippedView J) (queue shares : ℕ) : Type 0 where
    pub queues : plain.AddsQueue (queues_alone old) (queues_alone new) queue shares
    pub slips : new.slips ≡ old.slips ++ true ∷ []
