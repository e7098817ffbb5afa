-- A gate that a send found shut stays shut for each later send.
use Rattle.std.proofs.Common.{◌≡◌, ℕ, ap}
use Rattle.std.specs.Prelude.{true, Result, Ok, Err}
use Rattle.base_words.specs.declared.names.JobId.{JobId}
use Rattle.base_words.specs.declared.order.Order.{Order}
use Rattle.base_words.specs.declared.order.SendError.{SendError}
use Rattle.base_words.specs.declared.order.SendError.TheVariants.{Closed, Full, Spent, NoCore}
use Rattle.link_ends.specs.declared.ends.Outward.{Outward}
use Rattle.link_ends.specs.Calls.{Sends}
use Rattle.actor_desk.specs.Submissions.{numbered}
use Rattle.actor_caller.specs.Laws.{ClosedStaysClosed, IsClosed}

module _ {J : Type 0} (out later : Outward J ℕ) (credited : ℕ) (order : Order J) where
  -- an answer that the core is closed tells that the gate is shut
  tells_shut : (answer : Result JobId (SendError J)) → Sends out credited order later (numbered answer) → IsClosed answer → later.closed ≡ true
  tells_shut (Ok name) sends closed = absurd closed
  tells_shut (Err (Closed back final)) sends closed = ap (λ end. end.closed) sends.2
  tells_shut (Err (Full back)) sends closed = absurd closed
  tells_shut (Err (Spent back)) sends closed = absurd closed
  tells_shut (Err (NoCore back)) sends closed = absurd closed

  -- where the gate was found shut the answer is that the core is closed
  stays_shut : (answer : Result JobId (SendError J)) → Sends out credited order later (numbered answer) → out.closed ≡ true → IsClosed answer
  stays_shut (Ok name) sends shut = let open_gate = sends.0 in absurd cc
  stays_shut (Err (Closed back final)) sends shut = tt
  stays_shut (Err (Full back)) sends shut = let open_gate = sends.1 in absurd cc
  stays_shut (Err (Spent back)) sends shut = let open_gate = sends.1 in absurd cc
  stays_shut (Err (NoCore back)) sends shut = absurd sends

pub closed_stays : {J : Type 0} → ClosedStaysClosed J
closed_stays core order old answer new sends = (
  tells_shut _ _ _ order answer sends.link,
  λ shut. let closed = stays_shut _ _ _ order answer sends.link shut in (closed, tells_shut _ _ _ order answer sends.link closed),
)
