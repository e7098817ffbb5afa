-- Each step of a core leaves each poll that its journal tells owed.
use Rattle.std.specs.Prelude.{◌≡◌, ◌⊎◌, ℕ, Bool, Some, Option, List, slice_get, slice_set, Result}
use Rattle.base_words.specs.declared.names.JobId.{JobId}
use Rattle.base_words.specs.declared.names.TicketError.{TicketError}
use Rattle.base_words.specs.declared.order.Mode.{Mode}
use Rattle.base_words.specs.declared.order.Order.{Order}
use Rattle.base_words.specs.declared.order.Outcome.{Outcome}
use Rattle.base_words.specs.declared.order.SendError.{SendError}
use Rattle.base_jobs.specs.Meanings.{Meaning}
use Rattle.core_core.specs.declared.turn.PickError.{PickError}
use Rattle.core_core.specs.declared.turn.Settled.{Settled}
use Rattle.core_core.specs.declared.turn.Turn.{Turn}
use Rattle.core_queues.specs.declared.queues.CreateError.{CreateError}
use Rattle.link_ends.specs.declared.ends.Inward.{Inward}
use Rattle.link_ends.specs.declared.ends.Outward.{Outward}
use Rattle.link_ends.specs.Fits.{Fits}
use Rattle.actor_desk.specs.Calls.{Does}
use Rattle.actor_desk.specs.Submissions.{Submits}
use Rattle.actor_desk.specs.Tickets.{RedeemsTicket, DetachesTicket, CollectsFrom, GetsAll}
use Rattle.actor_core.specs.Ends.{IsSameSeat}
use Rattle.actor_core.specs.OwedPolls.{seen_by, HasOwedPolls}
use Rattle.actor_core.specs.Recorded.{RecordedView, desk_of}
use Rattle.actor_core.specs.RightAnswers.{Seen, SeesNoLess}
use Rattle.actor_core.specs.Steps.{Delivers, CreatesQueue, TellsShut, ClosesItself}
use Rattle.actor_core.specs.Turns.{IsPick, IsFurther, Picks, Follows, EndsTurn}
use Rattle.actor_core.specs.Whole.{IsPostingTurn}

module _ {J T : Type 0} (meaning : Meaning J T) where
  -- a whole turn, and a further poll in place, settles one poll more, and that one is owed, as far as the ends of its core have seen the links
  abbrev pub TurnsKeepOwed : {E : Type 0} → (E → Outward J T) → (E → ℕ) → (E → List ℕ) → (ℕ → Type 0) → Type 0
  TurnsKeepOwed {E} out credited untouched tells =
      (old : RecordedView J T) (ends : List E) (name : JobId) (queue : ℕ) (started : Bool) (settled : Settled T) (new : RecordedView J T) (later : List E) →
      IsPostingTurn meaning IsPick (Does (Fits meaning) out credited untouched) out untouched tells old ends name queue started settled new later
      ⊎ IsPostingTurn meaning IsFurther (Does (Fits meaning) out credited untouched) out untouched tells old ends name queue started settled new later →
      HasOwedPolls meaning (seen_by out ends) old → HasOwedPolls meaning (seen_by out later) new

  -- each other step settles no poll
  pub record StepsKeepOwed (seen : Seen J) (old new : RecordedView J T) : Type 0 where
    pub delivery : (before after : Inward J T) (found : Bool) → Delivers old before new after found → HasOwedPolls meaning seen old → HasOwedPolls meaning seen new
    pub creation : (weight : ℕ) (created : Result ℕ CreateError) → CreatesQueue weight old created new → HasOwedPolls meaning seen old → HasOwedPolls meaning seen new
    pub gate : (sender count : ℕ) → TellsShut old sender count new → HasOwedPolls meaning seen old → HasOwedPolls meaning seen new
    pub closing : (mode : Mode) (closed : Bool) → ClosesItself old mode closed new → HasOwedPolls meaning seen old → HasOwedPolls meaning seen new
    pub pick : (picked : Result (Turn J) PickError) → Picks meaning old picked new → HasOwedPolls meaning seen old → HasOwedPolls meaning seen new
    pub further : (followed : Option (Turn J)) → Follows old followed new → HasOwedPolls meaning seen old → HasOwedPolls meaning seen new
    pub end : (time : ℕ) → EndsTurn old time new → HasOwedPolls meaning seen old → HasOwedPolls meaning seen new

  -- so does no call of its desk while no job is polled
  pub record CallsKeepOwed (seen : Seen J) (old new : RecordedView J T) : Type 0 where
    pub collection : (core count : ℕ) → CollectsFrom core (desk_of old) count (desk_of new) → HasOwedPolls meaning seen old → HasOwedPolls meaning seen new
    pub submission : (to : ℕ) (order : Order J) (answer : Result JobId (SendError J)) → Submits to order (desk_of old) answer (desk_of new) →
        HasOwedPolls meaning seen old → HasOwedPolls meaning seen new
    pub redemption : (name : JobId) (answer : Result (Outcome J T) TicketError) → RedeemsTicket name (desk_of old) answer (desk_of new) → HasOwedPolls meaning seen old → HasOwedPolls meaning seen new
    pub detachment : (name : JobId) (answer : Result (Unit {0}) TicketError) → DetachesTicket name (desk_of old) answer (desk_of new) → HasOwedPolls meaning seen old → HasOwedPolls meaning seen new

  -- whatever its ends have seen
  abbrev pub OthersKeepOwed : {E : Type 0} → (E → Outward J T) → Type 0
  OthersKeepOwed {E} out = (ends : List E) (old new : RecordedView J T) →
      (IsSameSeat old new → StepsKeepOwed (seen_by out ends) old new) × (new ≡ record old { journal = new.journal; lanes = new.lanes } → CallsKeepOwed (seen_by out ends) old new)

  -- ends of which one has got all that it shows know no less of their links
  abbrev pub CollectionsSeeNoLess : {E : Type 0} → (E → Outward J T) → Type 0
  CollectionsSeeNoLess {E} out = (ends : List E) (core : ℕ) (was end : E) → slice_get ends core ≡ Some was → GetsAll (out was) (out end) →
      SeesNoLess (seen_by out ends) (seen_by out (slice_set ends core end))
