-- What a poll in place does, with a post of this actor: the job that was told ahead is picked or follows in its turn, is polled once, and that poll is settled.
use Rattle.std.specs.Prelude.{◌≡◌, ℕ, ◌+◌, ◌*◌, ◌≤◌, Bool, if◌then◌else◌, List, length, sum_by, Some, None}
use Rattle.std.specs.Option.{option_map}
use Rattle.base_words.specs.declared.names.JobId.{JobId}
use Rattle.base_words.specs.declared.order.Order.TheVariants.{Job}
use Rattle.base_words.specs.Bursts.{has_bursts, queue_in_turn, polls_in_turn}
use Rattle.base_words.specs.Journal.{Journal}
use Rattle.base_words.specs.Outcomes.{outcome_note}
use Rattle.base_jobs.specs.Calls.{Doing}
use Rattle.base_jobs.specs.Meanings.{Meaning}
use Rattle.base_jobs.specs.Steps.{AfterPoll, OwesAt}
use Rattle.core_core.specs.declared.turn.Settled.{Settled}
use Rattle.core_core.specs.declared.turn.Settled.TheVariants.{Yielded, Parked, Stayed, Finished}
use Rattle.link_ends.specs.declared.ends.Outward.{Outward}
use Rattle.base_words.specs.declared.order.Envelope.{Envelope}
use Rattle.actor_core.specs.Recorded.{RecordedView, IsRecorded, desk_of, order_taken}
use Rattle.actor_core.specs.Ends.{KeepsIn, LeavesOwed, IsSameSeat, told_under}
use Rattle.actor_desk.specs.Ends.{KeepsOuts}
use Rattle.actor_core.specs.Owed.{OwesSettled, outcome_settled}
use Rattle.actor_desk.specs.Posts.{PostView, AreOutsOf, HasPosted}
use Rattle.actor_desk.specs.Calls.{Does}
use Rattle.actor_desk.specs.Spending.{left_of}
use Rattle.actor_core.specs.Turns.{IsPolled, Settles}
use Rattle.link_ends.specs.Fits.{Fits}

-- the desk of a core, and its ends
abbrev pub post_of : {J T E : Type 0} → RecordedView J T → List E → PostView J T E
post_of view ends = record { desk = desk_of view; ends = ends }

-- a step that submits nothing leaves the seat, the ends on which this actor sends, and its lanes as they are
pub record StaysPut {J T : Type 0} (old new : RecordedView J T) : Type 0 where
  pub seat : IsSameSeat old new
  pub outs : KeepsOuts (desk_of old) (desk_of new)
  pub lanes : new.lanes ≡ old.lanes

-- how a job of a queue goes out, for its first poll or for a further one: by a pick (`IsPick`), or in the open turn (`IsFurther`)
abbrev pub Begins : Type 0 → Type 0 → Type 1
Begins J T = RecordedView J T → JobId → ℕ → Bool → J → RecordedView J T → Type 0

module _ {J T E : Type 0} (meaning : Meaning J T) (begins : Begins J T) (does : Doing (PostView J T E) J T) (out : E → Outward J T) (untouched : E → List ℕ) (tells : ℕ → Type 0) where
  -- the job goes out as said, is polled once while the desk and its ends are its post, and settled, with a time that the meter may tell; no value is ever what stands between
  pub record IsPostingTurn (old : RecordedView J T) (ends : List E) (name : JobId) (queue : ℕ) (started : Bool) (settled : Settled T) (new : RecordedView J T) (later : List E) : Type 0 where
    pub picked : RecordedView J T
    pub left : RecordedView J T
    pub ran : AfterPoll J T
    pub spent : ℕ
    pub told : tells spent
    pub picks : begins old name queue started ran.before picked
    pub sound : IsRecorded meaning picked
    pub stays : StaysPut old picked
    pub keeps : (sender : ℕ) → KeepsIn sender old picked
    pub owed : OwesAt meaning does ran.before (post_of picked ends) (post_of left later) ran.step ran.told
    pub posted : HasPosted out untouched (post_of picked ends) (post_of left later)
    pub rest : left ≡ record picked { journal = left.journal; lanes = left.lanes }
    pub silent : (sender : ℕ) → KeepsIn sender picked left
    pub polled : IsPolled meaning ran
    pub settles : Settles meaning left ran spent settled new
    pub stays_settled : StaysPut left new
    pub owes : OwesSettled left settled new

module _ {J T : Type 0} (meaning : Meaning J T) where
  -- the answer of a job that is done is one that the job sent under its name may have
  abbrev pub MayAnswer : List (Envelope J) → JobId → Settled T → Type 0
  MayAnswer took name Yielded = Unit {0}
  MayAnswer took name Parked = Unit {0}
  MayAnswer took name Stayed = Unit {0}
  MayAnswer took name (Finished answer) = (queue : ℕ) × (sent : J) × (order_taken took name ≡ Some (Job queue sent)) × meaning.answers sent answer

-- behind so many polls of its turn, the turn of the queue is open, where turns may have several polls
pub record LeavesTurn {T : Type 0} (burst queue polls : ℕ) (notes : Journal T) : Type 0 where
  pub queue_is : queue_in_turn burst notes ≡ (if has_bursts burst then Some queue else None)
  pub polls_are : polls_in_turn notes ≡ polls

module _ {J T E : Type 0} (meaning : Meaning J T) (begins : Begins J T) (out : E → Outward J T) (credited : E → ℕ) (untouched : E → List ℕ) (tells : ℕ → Type 0) where
  -- a poll with its notes, of which so many aren't posted: what it owes to the job's sender, what it leaves beside the desk and of its turn, how many notes it may take, and that nothing is out behind it
  pub record TurnsNoted (own polls : ℕ) (old : RecordedView J T) (ends : List E) (name : JobId) (queue : ℕ) (started : Bool) (settled : Settled T) (new : RecordedView J T) (later : List E) : Type 0 where
    pub turns : IsPostingTurn meaning begins (Does (Fits meaning) out credited untouched) out untouched tells old ends name queue started settled new later
    pub owes : (sender : ℕ) → LeavesOwed sender (told_under name (option_map outcome_note (outcome_settled {J = J} settled)) sender) old new
    pub may_answer : MayAnswer meaning new.took name settled
    pub outs : AreOutsOf (Fits meaning) out credited (desk_of new) later
    pub few : length new.journal.notes ≤ length old.journal.notes + old.core.cores * (3 * old.cap) + own
    pub spends : length new.journal.notes + sum_by left_of new.lanes ≤ length old.journal.notes + sum_by left_of old.lanes + own
    pub left : sum_by left_of old.lanes ≤ old.core.cores * (3 * old.cap)
    pub in_turn : LeavesTurn new.core.bursts.burst queue polls new.journal.notes
    pub at_rest : new.core.out ≡ None
    pub took : new.took ≡ old.took
    pub seat : IsSameSeat old new
    pub sound : IsRecorded meaning new
