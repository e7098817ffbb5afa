-- What a caller has done that waited, when it gets its answer.
use Rattle.std.specs.Prelude.{◌≡◌, ◌↔◌, ℕ, ◌<◌, Bool, zero, suc, All, IsTrue, List, [], length, take, Option, Some, None, Result, Err, slice_get}
use Rattle.base_words.specs.declared.names.JobId.{JobId}
use Rattle.base_words.specs.declared.names.TicketError.{TicketError}
use Rattle.base_words.specs.declared.names.TicketError.TheVariants.{Pending}
use Rattle.base_words.specs.declared.order.Order.{Order}
use Rattle.base_words.specs.declared.order.Outcome.{Outcome}
use Rattle.base_words.specs.declared.order.SendError.TheVariants.{Full}
use Rattle.actor_desk.specs.Tickets.{RefusesTicket}
use Rattle.actor_caller.specs.declared.error.SubmitError.{SubmitError}
use Rattle.actor_caller.specs.declared.error.SubmitError.TheVariants.{Send}
use Rattle.actor_caller.specs.Sends.{SubmitsTo}
use Rattle.actor_caller.specs.State.{RuntimeView, SubmitsNothing}
use Rattle.actor_caller.specs.Tickets.{Collects, RedeemsHere}

module _ {J T : Type 0} where
  -- so many steps in a row, each of which does this
  abbrev pub InARow : (RuntimeView J T → RuntimeView J T → Type 0) → ℕ → RuntimeView J T → RuntimeView J T → Type 0
  InARow step zero old new = new ≡ old
  InARow step (suc count) old new = (between : RuntimeView J T) × InARow step count old between × step between new

  -- `collect` of this core
  pub record CollectsAt (core : ℕ) (old new : RuntimeView J T) : Type 0 where
    pub count : ℕ
    pub collects : Collects core old count new

  -- `collect` of each core below this number, in their order
  abbrev pub CollectsBelow : ℕ → RuntimeView J T → RuntimeView J T → Type 0
  CollectsBelow zero old new = new ≡ old
  CollectsBelow (suc core) old new = (between : RuntimeView J T) × CollectsBelow core old between × CollectsAt core between new

  -- one look at all links: `collect` of each core
  abbrev pub CollectsEach : RuntimeView J T → RuntimeView J T → Type 0
  CollectsEach old new = CollectsBelow old.desk.cores old new

  -- one such look, and whether there was an outcome
  pub record LooksOnce (old : RuntimeView J T) (some : Bool) (new : RuntimeView J T) : Type 0 where
    pub collects : CollectsEach old new
    pub tells : IsTrue some ↔ (length old.desk.journal.notes < length new.desk.journal.notes)

  -- the caller looks at all links, once or more often, and does nothing else
  pub record LooksOnly (old new : RuntimeView J T) : Type 0 where
    pub again : ℕ
    pub are : InARow CollectsEach (suc again) old new

  -- a try in vain, and then looks alone
  pub record TriesInVain (in_vain : RuntimeView J T → RuntimeView J T → Type 0) (old new : RuntimeView J T) : Type 0 where
    pub tried : RuntimeView J T
    pub vain : in_vain old tried
    pub looks : LooksOnly tried new

  -- The caller waits: tries in vain, behind each of which it looks at all links. So it collects only behind such a try.
  pub record Waits (in_vain : RuntimeView J T → RuntimeView J T → Type 0) (old new : RuntimeView J T) : Type 0 where
    pub tries : ℕ
    pub are : InARow (TriesInVain in_vain) tries old new

  -- Each submission before the last one finds the link full. The last one doesn't, and this is its answer.
  pub record SubmitsAtLast (each core : ℕ) (order : Order J) (old : RuntimeView J T) (answer : Result JobId (SubmitError J)) (new : RuntimeView J T) : Type 0 where
    pub before : RuntimeView J T
    pub waits : Waits (λ was tried. SubmitsTo each core order was (Err (Send (Full order))) tried) old before
    pub submits : SubmitsTo each core order before answer new
    pub not_full : (back : Order J) → answer ≡ Err (Send (Full back)) → ⊥

  -- the outcome of none of these submissions is collected, and trying to redeem them changes nothing that is noted
  pub record AreAllPending (names : List JobId) (old tried : RuntimeView J T) : Type 0 where
    pub each : All (λ name. RefusesTicket name Pending old.desk.journal.notes) names
    pub desk : tried.desk ≡ old.desk
    pub nothing : SubmitsNothing old tried

module _ {J T : Type 0} (fits : Order J → Outcome J T → Type 0) where
  -- Each redemption before the last one comes before the outcome is collected. The last one doesn't: it gets the outcome, or the ticket is refused
  -- for another reason.
  pub record RedeemsAtLast (name : JobId) (old : RuntimeView J T) (answer : Result (Outcome J T) TicketError) (new : RuntimeView J T) : Type 0 where
    pub before : RuntimeView J T
    pub waits : Waits (λ was tried. RedeemsHere fits name was (Err Pending) tried) old before
    pub redeems : RedeemsHere fits name before answer new
    pub not_pending : answer ≡ Err Pending → ⊥

  -- the ticket at this place is the first one that isn't pending, and it is redeemed, or refused for another reason
  pub record RedeemsFirst (names : List JobId) (old : RuntimeView J T) (place : ℕ) (answer : Result (Outcome J T) TicketError) (new : RuntimeView J T) : Type 0 where
    pub tried : RuntimeView J T
    pub earlier : AreAllPending (take place names) old tried
    pub name : JobId
    pub here : slice_get names place ≡ Some name
    pub redeems : RedeemsHere fits name tried answer new
    pub not_pending : answer ≡ Err Pending → ⊥

  -- as long as all of these tickets are pending the caller collects, and then the first one that isn't is redeemed
  pub record RedeemsAnyAtLast (names : List JobId) (old : RuntimeView J T) (place : ℕ) (answer : Result (Outcome J T) TicketError) (new : RuntimeView J T) : Type 0 where
    pub before : RuntimeView J T
    pub waits : Waits (AreAllPending names) old before
    pub redeems : RedeemsFirst names before place answer new

  -- a wait for any of these tickets: one is redeemed, or there are none
  abbrev pub WaitsForAny : List JobId → RuntimeView J T → Option (ℕ × Result (Outcome J T) TicketError) → RuntimeView J T → Type 0
  WaitsForAny names old None new = (names ≡ []) × (new ≡ old)
  WaitsForAny names old (Some found) new = RedeemsAnyAtLast names old found.0 found.1 new
