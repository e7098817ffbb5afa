-- Laws over the definitions of sends and of submissions.
use Rattle.std.specs.Prelude.{◌≡◌, ℕ, true, Result, Ok, Err}
use Rattle.base_words.specs.declared.names.JobId.{JobId}
use Rattle.base_words.specs.declared.order.Order.{Order}
use Rattle.base_words.specs.declared.order.SendError.{SendError}
use Rattle.base_words.specs.declared.order.SendError.TheVariants.{Closed}
use Rattle.actor_caller.specs.declared.error.SubmitError.{SubmitError}
use Rattle.actor_caller.specs.Errors.{refused_order}
use Rattle.actor_caller.specs.Sends.{SendsTo, SubmitsTo}
use Rattle.actor_caller.specs.State.{RuntimeView, is_told_shut}

module _ {J : Type 0} where
  -- the answer is that the core is closed
  abbrev pub IsClosed : Result JobId (SendError J) → Type 0
  IsClosed (Ok name) = ⊥
  IsClosed (Err (Closed back final)) = Unit {0}
  IsClosed (Err _) = ⊥

-- a send that is answered `Closed` found the gate shut, and each send behind one that found it shut is answered so
abbrev pub ClosedStaysClosed : Type 0 → Type 0
ClosedStaysClosed J =
    (core : ℕ) (order : Order J) (old : RuntimeView J ℕ) (answer : Result JobId (SendError J)) (new : RuntimeView J ℕ) → SendsTo core order old answer new →
    (IsClosed answer → is_told_shut core new ≡ true) × (is_told_shut core old ≡ true → IsClosed answer × (is_told_shut core new ≡ true))

-- a submission that is refused gives back the order that was handed in
abbrev pub RefusedOrdersComeBack : Type 0 → Type 0
RefusedOrdersComeBack J =
    (each core : ℕ) (order : Order J) (old : RuntimeView J ℕ) (error : SubmitError J) (new : RuntimeView J ℕ) → SubmitsTo each core order old (Err error) new →
    refused_order error ≡ order
