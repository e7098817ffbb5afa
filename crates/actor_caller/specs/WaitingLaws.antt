-- What waiting comes to, said of the caller's journal and of the orders that it submitted.
use Rattle.std.specs.Prelude.{◌≡◌, ◌≢◌, ℕ, All, List, [], ◌∷◌, ◌++◌, IsSome, Result, Ok, Err}
use Rattle.base_words.specs.declared.names.JobId.{JobId}
use Rattle.base_words.specs.declared.names.TicketError.{TicketError}
use Rattle.base_words.specs.declared.note.Note.{Note}
use Rattle.base_words.specs.declared.note.Note.TheVariants.{Redeemed, Sent}
use Rattle.base_words.specs.declared.order.Order.{Order}
use Rattle.base_words.specs.declared.order.Outcome.{Outcome}
use Rattle.base_words.specs.Orders.{without_job}
use Rattle.base_words.specs.Outcomes.{outcome_note}
use Rattle.base_words.specs.Outstanding.{name_collected}
use Rattle.actor_caller.specs.declared.error.SubmitError.{SubmitError}
use Rattle.actor_caller.specs.State.{RuntimeView, SubmitsNothing, submitted}
use Rattle.actor_caller.specs.Waiting.{RedeemsAtLast, SubmitsAtLast}

-- this note says that an outcome was collected
abbrev pub IsCollection : {T : Type 0} → Note T → Type 0
IsCollection note = IsSome (name_collected note)

-- each of these notes does
abbrev pub AreCollections : {T : Type 0} → List (Note T) → Type 0
AreCollections notes = All IsCollection notes

-- the order, if it was submitted
abbrev pub order_submitted : {J : Type 0} → Order J → Result JobId (SubmitError J) → List (Order J)
order_submitted order (Ok name) = order ∷ []
order_submitted order (Err error) = []

module _ {J T : Type 0} where
  -- what is noted of this answer to a ticket
  abbrev pub redemption : JobId → Result (Outcome J T) TicketError → List (Note T)
  redemption name (Ok outcome) = Redeemed name (outcome_note outcome) ∷ []
  redemption name (Err error) = []

  -- what is noted of this answer to a submission
  abbrev pub submission : Order J → Result JobId (SubmitError J) → List (Note T)
  submission order (Ok name) = Sent name (without_job order) ∷ []
  submission order (Err error) = []

  -- outcomes were collected, and then this ticket was redeemed, or refused; nothing else was done
  pub record OnlyRedeems (name : JobId) (old : RuntimeView J T) (answer : Result (Outcome J T) TicketError) (new : RuntimeView J T) : Type 0 where
    pub collected : List (Note T)
    pub are : AreCollections collected
    pub noted : new.desk.journal.notes ≡ redemption name answer ++ (collected ++ old.desk.journal.notes)
    pub nothing : SubmitsNothing old new

  -- outcomes were collected, and then this order was submitted, or refused; no other was submitted
  pub record OnlySubmits (core : ℕ) (order : Order J) (old : RuntimeView J T) (answer : Result JobId (SubmitError J)) (new : RuntimeView J T) : Type 0 where
    pub collected : List (Note T)
    pub are : AreCollections collected
    pub noted : new.desk.journal.notes ≡ submission order answer ++ (collected ++ old.desk.journal.notes)
    pub here : submitted core new ≡ submitted core old ++ order_submitted order answer
    pub others : (other : ℕ) → other ≢ core → submitted other new ≡ submitted other old

  -- a wait for an outcome redeems it once, and redeems, lets go and submits nothing else
  abbrev pub WaitsRedeemOnce : (Order J → Outcome J T → Type 0) → Type 0
  WaitsRedeemOnce fits = (name : JobId) (old : RuntimeView J T) (answer : Result (Outcome J T) TicketError) (new : RuntimeView J T) → RedeemsAtLast fits name old answer new → OnlyRedeems name old answer new

-- a wait for a place submits its order once, and redeems and lets go nothing
abbrev pub WaitsSubmitOnce : Type 0 → Type 0 → Type 0
WaitsSubmitOnce J T =
    (each core : ℕ) (order : Order J) (old : RuntimeView J T) (answer : Result JobId (SubmitError J)) (new : RuntimeView J T) → SubmitsAtLast each core order old answer new → OnlySubmits core order old answer new
