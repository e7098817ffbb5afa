-- What the handles on one caller do: calls that one thread could have made, one behind another.
use Rattle.std.specs.Prelude.{◌≡◌, ◌⊎◌, ◌≤◌, ℕ, Bool, true, false, length, Result}
use Rattle.base_words.specs.declared.names.JobId.{JobId}
use Rattle.base_words.specs.declared.names.TicketError.{TicketError}
use Rattle.base_words.specs.declared.order.Order.{Order}
use Rattle.base_words.specs.declared.order.Outcome.{Outcome}
use Rattle.base_jobs.specs.Meanings.{Meaning}
use Rattle.base_jobs.specs.Ready.{HasReadyJob}
use Rattle.link_ends.specs.Fits.{Fits}
use Rattle.actor_caller.specs.declared.error.SubmitError.{SubmitError}
use Rattle.actor_caller.specs.Sends.{SubmitsTo, is_closing}
use Rattle.actor_caller.specs.State.{RuntimeView}
use Rattle.actor_caller.specs.Tickets.{DetachesHere, RedeemsHere}
use Rattle.actor_caller.specs.Waiting.{CollectsAt, CollectsEach, InARow}

-- a caller behind a lock: what it saw of its house when it was put there, and how many handles were given
pub record CallersView (J : Type 0) : Type 0 where
  pub begun : RuntimeView J ℕ
  pub given : ℕ

-- a handle: its number, and what the caller saw of its house when it was put behind its lock
pub record HandleView (J : Type 0) : Type 0 where
  pub begun : RuntimeView J ℕ
  pub number : ℕ

-- nothing was done, or one look at all links
abbrev pub MayCollect : {J : Type 0} → RuntimeView J ℕ → RuntimeView J ℕ → Type 0
MayCollect old new = (new ≡ old) ⊎ CollectsEach old new

-- one look at all links; where it says that there was nothing, no outcome was collected
pub record LooksFor {J : Type 0} (some : Bool) (old new : RuntimeView J ℕ) : Type 0 where
  pub collects : CollectsEach old new
  pub quiet : some ≡ false → length new.desk.journal.notes ≤ length old.desk.journal.notes

module _ {J : Type 0} (meaning : Meaning J ℕ) where
  -- an order was submitted, whatever was answered; one that closes its core may take the notes that are left for it
  pub record SubmitsSome (old new : RuntimeView J ℕ) : Type 0 where
    pub each : ℕ
    pub core : ℕ
    pub order : Order J
    pub leaves : (each ≡ 3) ⊎ ((each ≡ 0) × (is_closing order ≡ true))
    pub ready : HasReadyJob meaning order
    pub answer : Result JobId (SubmitError J)
    pub submits : SubmitsTo each core order old answer new

  -- a ticket was redeemed, or refused
  pub record RedeemsSome (old new : RuntimeView J ℕ) : Type 0 where
    pub name : JobId
    pub answer : Result (Outcome J ℕ) TicketError
    pub redeems : RedeemsHere (Fits meaning) name old answer new

  -- a ticket was let go, or refused
  pub record DetachesSome (old new : RuntimeView J ℕ) : Type 0 where
    pub name : JobId
    pub answer : Result (Unit {0}) TicketError
    pub detaches : DetachesHere name old answer new

  -- one call of the outside actor
  abbrev pub IsCall : RuntimeView J ℕ → RuntimeView J ℕ → Type 0
  IsCall old new = SubmitsSome old new ⊎ (RedeemsSome old new ⊎ (DetachesSome old new ⊎ ((core : ℕ) × CollectsAt core old new)))

  -- so many calls, one behind another, made this of it
  pub record CallsMake (begun now : RuntimeView J ℕ) : Type 0 where
    pub calls : ℕ
    pub row : InARow IsCall calls begun now

  -- one of such calls did this, of what the calls before it had made
  pub record IsAmongCalls (does : RuntimeView J ℕ → RuntimeView J ℕ → Type 0) (begun : RuntimeView J ℕ) : Type 0 where
    pub before : RuntimeView J ℕ
    pub after : RuntimeView J ℕ
    pub made : CallsMake begun before
    pub did : does before after
