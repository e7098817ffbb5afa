-- What is known of the submissions of one actor to one core, and how it belongs to the out end of their link.
use Rattle.std.specs.Prelude.{◌≡◌, ◌⊎◌, ℕ, ◌+◌, ◌-◌, ◌<◌, ◌≤◌, Bool, true, false, List, [], length, take, Some, None, slice_get, IfSome}
use Rattle.base_words.specs.declared.order.Order.{Order}
use Rattle.base_words.specs.declared.order.Outcome.{Outcome}
use Rattle.link_ends.specs.declared.ends.Outward.{Outward}
use Rattle.link_ends.specs.Calls.{Collects}
use Rattle.link_ends.specs.Ends.{AreOf, SoundOut}
use Rattle.actor_desk.specs.Held.{at, tally, count_of}
use Rattle.actor_desk.specs.declared.entry.Entry.{Entry}
use Rattle.actor_desk.specs.declared.entry.Entry.TheVariants.{Pending, Detached, Collected}

-- the submissions to one core: what is outstanding, by number; how many may be; how many numbers were given, and the last of them
pub record Lane (J T : Type 0) : Type 0 where
  pub entries : List (ℕ × Entry J T)
  pub room : ℕ
  pub count : ℕ
  pub last : ℕ

-- whether an outcome waits to be redeemed
abbrev pub is_collected : {J T : Type 0} → Entry J T → Bool
is_collected (Collected outcome) = true
is_collected Pending = false
is_collected Detached = false

-- whether nobody will ask for the outcome
abbrev pub is_detached : {J T : Type 0} → Entry J T → Bool
is_detached Detached = true
is_detached Pending = false
is_detached (Collected outcome) = false

module _ {J T : Type 0} where
  -- a lane of which no number was given
  abbrev pub fresh_lane : ℕ → Lane J T
  fresh_lane room = record { entries = []; room = room; count = 0; last = 0 }

  -- the number was given here
  abbrev pub IsGiven : Lane J T → ℕ → Type 0
  IsGiven lane number = (lane.last < number + lane.count) × (number ≤ lane.last)

  -- nothing of the number is outstanding, or it is detached
  abbrev pub IsGone : Lane J T → ℕ → Type 0
  IsGone lane number = (at lane.entries number ≡ None) ⊎ (at lane.entries number ≡ Some Detached)

  -- the number was sent on this link
  abbrev pub IsSent : Outward J T → ℕ → Type 0
  IsSent out number = (out.base < number) × (number ≤ out.base + length out.sent)

  -- the outcome was collected under this number
  pub record IsGot (out : Outward J T) (number : ℕ) (outcome : Outcome J T) : Type 0 where
    pub place : ℕ
    pub got : place < out.got
    pub is : slice_get out.seen place ≡ Some (number, outcome)

  -- no outcome was collected under this number
  abbrev pub IsAwaited : Outward J T → ℕ → Type 0
  IsAwaited out number = (i : ℕ) (found : ℕ × Outcome J T) → i < out.got → slice_get out.seen i ≡ Some found → ¬ (found.0 ≡ number)

  -- the outcome fits the order that was sent under this number
  abbrev pub FitsSent : (Order J → Outcome J T → Type 0) → Outward J T → ℕ → Outcome J T → Type 0
  FitsSent fits out number outcome = IfSome (slice_get out.sent (number - out.base - 1)) (λ order. fits order outcome)

  -- an entry says what is true of its number
  abbrev pub Stands : Outward J T → ℕ → Entry J T → Type 0
  Stands out number Pending = IsSent out number × IsAwaited out number
  Stands out number Detached = IsSent out number × IsAwaited out number
  Stands out number (Collected outcome) = IsSent out number × IsGot out number outcome

  -- The lane is what it should be beside the out end of its link. All that was sent and has no credit stands in it; what stands there is true;
  -- what was sent and doesn't stand there was collected. So a place of the link is free as soon as its submission is gone, and not before.
  pub record IsLaneOf (fits : Order J → Outcome J T → Type 0) (lane : Lane J T) (out : Outward J T) (credited : ℕ) : Type 0 where
    pub room : lane.room ≡ out.capacity
    pub count : lane.count ≡ length out.sent
    pub last : 0 < lane.count → lane.last ≡ out.base + lane.count
    pub sound : SoundOut out credited
    pub named : AreOf fits out.base out.sent (take out.got out.seen)
    pub standing : (number : ℕ) (entry : Entry J T) → at lane.entries number ≡ Some entry → Stands out number entry
    pub gone : (number : ℕ) → IsSent out number → at lane.entries number ≡ None → (outcome : Outcome J T) × IsGot out number outcome
    pub outstanding : count_of lane.entries + credited ≡ length out.sent
    pub kept : tally lane.entries is_collected + credited ≡ out.got

  -- an outcome was just collected at the end beside this lane, which doesn't know of it yet
  pub record IsJustGot (fits : Order J → Outcome J T → Type 0) (lane : Lane J T) (later : Outward J T) (credited number : ℕ) (outcome : Outcome J T) : Type 0 where
    pub out : Outward J T
    pub lane_of : IsLaneOf fits lane out credited
    pub collects : Collects out later (Some (number, outcome))
    pub sound : SoundOut later credited
    pub named : AreOf fits later.base later.sent later.seen
    pub earned : credited < later.got

  -- an end on which nothing was done yet
  abbrev pub IsUnused : ℕ → Outward J T → ℕ → Type 0
  IsUnused capacity out credited = (out.capacity ≡ capacity) × (out.sent ≡ []) × (out.seen ≡ []) × (out.got ≡ 0) × (credited ≡ 0) × SoundOut out credited
