-- What the steps of a worker do: a gate is shut, an order is delivered, a job is polled or handed back, outcomes are collected.
use Rattle.std.specs.Prelude.{◌≡◌, ◌≢◌, ◌⊎◌, ℕ, ◌+◌, ◌*◌, ◌-◌, ◌^◌, ◌≤◌, Bool, false, length, sum_by}
use Rattle.base_words.specs.declared.names.JobId.{JobId}
use Rattle.base_words.specs.declared.order.Order.{Order}
use Rattle.base_words.specs.declared.order.Reason.{Reason}
use Rattle.base_words.specs.Bursts.{polls_in_turn}
use Rattle.base_words.specs.Journal.{Journal}
use Rattle.base_words.specs.Picks.{turns}
use Rattle.base_words.specs.Work.{has_work}
use Rattle.base_jobs.specs.Meanings.{Meaning}
use Rattle.base_jobs.specs.Steps.{AfterPoll, OwesAt}
use Rattle.core_core.specs.declared.turn.Settled.{Settled}
use Rattle.link_ends.specs.Calls.{Shuts}
use Rattle.actor_core.specs.Recorded.{RecordedView, desk_of}
use Rattle.actor_core.specs.Ends.{IsSameSeat}
use Rattle.actor_core.specs.Steps.{Delivers, TellsShut}
use Rattle.actor_desk.specs.Posts.{HasPosted}
use Rattle.actor_desk.specs.Calls.{Does}
use Rattle.actor_core.specs.Whole.{Begins, LeavesTurn, post_of}
use Rattle.actor_desk.specs.Spending.{left_of}
use Rattle.actor_desk.specs.Tickets.{CollectsFrom, GetsAll, GetsNext}
use Rattle.actor_core.specs.Turns.{IsPick, IsFurther, IsHandBack, Settles}
use Rattle.link_ring.specs.Ends.{in_at, out_at}
use Rattle.actor_seat.specs.Linked.{LinkedView, StaysLinked}
use Rattle.link_ends.specs.Fits.{Fits}

-- no turn is to be made: no queue has work, or all turns are used
abbrev pub HasNoTurn : {T : Type 0} → Journal T → Type 0
HasNoTurn notes = ((queue : ℕ) → has_work queue notes ≡ false) ⊎ (turns notes ≡ 2 ^ 64 - 1)

module _ {J T : Type 0} where
  -- the gate of this sender is shut, and its count is told
  pub record ShutsGate (sender : ℕ) (old new : LinkedView J T) : Type 0 where
    pub count : ℕ
    pub tells : TellsShut old.recorded sender count new.recorded
    pub shuts : Shuts (in_at sender old.ends).inward (in_at sender new.ends).inward count
    pub others : (other : ℕ) → other ≢ sender → in_at other new.ends ≡ in_at other old.ends
    pub stays : StaysLinked old new

  -- the next order of this sender is delivered, or none shows
  pub record DeliversFrom (sender : ℕ) (old : LinkedView J T) (found : Bool) (new : LinkedView J T) : Type 0 where
    pub delivers : Delivers old.recorded (in_at sender old.ends).inward new.recorded (in_at sender new.ends).inward found
    pub others : (other : ℕ) → other ≢ sender → in_at other new.ends ≡ in_at other old.ends
    pub stays : StaysLinked old new

  -- all outcomes that the end to this core shows are collected, at most as many as the link has places
  pub record CollectsOf (core : ℕ) (old : LinkedView J T) (count : ℕ) (new : LinkedView J T) : Type 0 where
    pub collects : CollectsFrom core (desk_of old.recorded) count (desk_of new.recorded)
    pub all : GetsAll (out_at core old.ends).out (out_at core new.ends).out
    pub others : (other : ℕ) → other ≢ core → out_at other new.ends ≡ out_at other old.ends
    pub few : count ≤ old.recorded.cap
    pub rest : new.recorded ≡ record old.recorded { journal = new.recorded.journal; lanes = new.recorded.lanes }
    pub stays : StaysLinked old new

  -- the next outcome that the end to this core shows is collected, if it shows one
  pub record CollectsOne (core : ℕ) (old : LinkedView J T) (found : Bool) (new : LinkedView J T) : Type 0 where
    pub gets : GetsNext core (desk_of old.recorded) (desk_of new.recorded) (out_at core old.ends).out (out_at core new.ends).out found
    pub others : (other : ℕ) → other ≢ core → out_at other new.ends ≡ out_at other old.ends
    pub few : length new.recorded.journal.notes ≤ length old.recorded.journal.notes + old.recorded.cap
    pub rest : new.recorded ≡ record old.recorded { journal = new.recorded.journal; lanes = new.recorded.lanes }
    pub stays : StaysLinked old new

module _ {J T : Type 0} (meaning : Meaning J T) where
  -- the first job of the right pick is handed back
  pub record HandsBack (old new : RecordedView J T) : Type 0 where
    pub name : JobId
    pub reason : Reason
    pub order : Order J
    pub did : IsHandBack meaning old name reason order new

module _ {J T : Type 0} (meaning : Meaning J T) (begins : Begins J T) (tells : ℕ → Type 0) (own polls : ℕ) where
  -- The job of this name goes out and is polled once, its post is this actor's desk over its own ends, and its poll is settled, with a time that may be told.
  -- Besides what it posts, it takes so many notes of its own. Behind it its turn has had so many polls.
  pub record PollsOne (name : JobId) (old new : LinkedView J T) : Type 0 where
    pub queue : ℕ
    pub was_started : Bool
    pub picked : RecordedView J T
    pub left : RecordedView J T
    pub ran : AfterPoll J T
    pub spent : ℕ
    pub settled : Settled T
    pub picks : begins old.recorded name queue was_started ran.before picked
    pub owed : OwesAt meaning (Does (Fits meaning) (λ end. end.out) (λ end. end.credited) (λ end. end.link)) ran.before (post_of picked old.ends.outs) (post_of left new.ends.outs) ran.step ran.told
    pub posted : HasPosted (λ end. end.out) (λ end. end.link) (post_of picked old.ends.outs) (post_of left new.ends.outs)
    pub told : tells spent
    pub settles : Settles meaning left ran spent settled new.recorded
    pub few : length new.recorded.journal.notes ≤ length old.recorded.journal.notes + old.recorded.core.cores * (3 * old.recorded.cap) + own
    pub spends : length new.recorded.journal.notes + sum_by left_of new.recorded.lanes ≤ length old.recorded.journal.notes + sum_by left_of old.recorded.lanes + own
    pub spare : sum_by left_of old.recorded.lanes ≤ old.recorded.core.cores * (3 * old.recorded.cap)
    pub in_turn : LeavesTurn new.recorded.core.bursts.burst queue polls new.recorded.journal.notes
    pub seat : IsSameSeat old.recorded new.recorded

module _ {J T : Type 0} (meaning : Meaning J T) (tells : ℕ → Type 0) where
  -- the first poll of a turn: of the first job of the right pick
  abbrev pub PollsFirst : JobId → LinkedView J T → LinkedView J T → Type 0
  PollsFirst name old new = PollsOne meaning IsPick tells 3 1 name old new

  -- one poll more of the open turn: of the first job of its queue
  abbrev pub PollsFurther : JobId → LinkedView J T → LinkedView J T → Type 0
  PollsFurther name old new = PollsOne meaning IsFurther tells 2 (polls_in_turn old.recorded.journal.notes + 1) name old new
