-- What the calls of a post write, and that each is answered as the notes before it say.
use Rattle.std.specs.Prelude.{◌≡◌, ℕ, ◌-◌, ◌^◌, ◌≤◌, List, [], ◌∷◌, ◌++◌, length, Result, Ok, Err}
use Rattle.base_words.specs.Terms.{Terms}
use Rattle.base_words.specs.declared.names.JobId.{JobId}
use Rattle.base_words.specs.declared.names.TicketError.TheVariants.{Unknown, Gone, Pending}
use Rattle.base_words.specs.declared.note.Note.{Note}
use Rattle.base_words.specs.declared.note.Note.TheVariants as writes
use Rattle.base_words.specs.declared.order.Order.{Order}
use Rattle.base_words.specs.declared.order.SendError.{SendError}
use Rattle.base_words.specs.declared.order.SendError.TheVariants.{Closed, Full, Spent, NoCore}
use Rattle.base_words.specs.Collecting.{IsRedeemable, IsDetachable}
use Rattle.base_words.specs.Filters.{accepted_orders}
use Rattle.base_words.specs.Journal.{Journal}
use Rattle.base_words.specs.Lawful.{IsNextSent}
use Rattle.base_words.specs.Orders.{without_job}
use Rattle.base_words.specs.Outcomes.{outcome_note}
use Rattle.base_words.specs.Outstanding.{outstanding_count}
use Rattle.base_jobs.specs.Calls.{Call}
use Rattle.base_jobs.specs.Calls.Call.{Submit, Redeem, Detach}
use Rattle.actor_desk.specs.Tickets.{RefusesTicket}

-- what is known of the links on which an actor sends: which core's gate is shut at which number, and which order was sent under a name
pub record Seen (J : Type 0) : Type 1 where
  pub shut : ℕ → ℕ → Type 0
  pub sent : JobId → Order J → Type 0

-- no less is known
pub record SeesNoLess {J : Type 0} (old new : Seen J) : Type 0 where
  pub shut : (core final : ℕ) → old.shut core final → new.shut core final
  pub sent : (name : JobId) (order : Order J) → old.sent name order → new.sent name order

module _ {J T : Type 0} where
  -- a call writes that an order was accepted, that an outcome was redeemed, or that a submission was detached; a refused call writes nothing
  abbrev pub call_notes : Call J T → List (Note T)
  call_notes (Submit to order (Ok name)) = writes.Sent name (without_job order) ∷ []
  call_notes (Submit to order (Err refused)) = []
  call_notes (Redeem name (Ok outcome)) = writes.Redeemed name (outcome_note outcome) ∷ []
  call_notes (Redeem name (Err refused)) = []
  call_notes (Detach name (Ok done)) = writes.Detached name ∷ []
  call_notes (Detach name (Err refused)) = []

  -- calls write their notes one after another, the newest first
  abbrev pub posted_notes : List (Call J T) → List (Note T)
  posted_notes [] = []
  posted_notes (call ∷ calls) = posted_notes calls ++ call_notes call

  module _ (terms : Terms) (seen : Seen J) where
    -- An order that is accepted is the one that was sent under the next name of its link. A refusal tells what is so: the gate of that core is shut at this number, and so
    -- many orders this actor had sent there; as many orders are outstanding as may be; the last number was given; or there is no such core.
    abbrev pub AnswersOrder : ℕ → Order J → Result JobId (SendError J) → Journal T → Type 0
    AnswersOrder to order (Ok name) before = IsNextSent terms name (without_job order) before × (name.to ≡ to) × seen.sent name order
    AnswersOrder to order (Err (Closed back final)) before = (back ≡ order) × seen.shut to final × (final ≡ length (accepted_orders to before))
    AnswersOrder to order (Err (Full back)) before = (back ≡ order) × (terms.cap ≤ outstanding_count to before)
    AnswersOrder to order (Err (Spent back)) before = (back ≡ order) × (length (accepted_orders to before) ≡ 2 ^ 63 - 1)
    AnswersOrder to order (Err (NoCore back)) before = (back ≡ order) × (terms.cores ≤ to)

    -- a call is answered as the notes before it say
    abbrev pub IsRightAnswer : Call J T → Journal T → Type 0
    IsRightAnswer (Submit to order answer) before = AnswersOrder to order answer before
    IsRightAnswer (Redeem name (Ok outcome)) before = IsRedeemable name (outcome_note outcome) before
    IsRightAnswer (Redeem name (Err error)) before = RefusesTicket name error before
    IsRightAnswer (Detach name (Ok done)) before = IsDetachable name before
    IsRightAnswer (Detach name (Err Unknown)) before = RefusesTicket name Unknown before
    IsRightAnswer (Detach name (Err Gone)) before = RefusesTicket name Gone before
    IsRightAnswer (Detach name (Err Pending)) before = ⊥

    -- so is each of these calls, one after another
    abbrev pub AreRightAnswers : List (Call J T) → Journal T → Type 0
    AreRightAnswers [] before = Unit {0}
    AreRightAnswers (call ∷ calls) before = IsRightAnswer call before × AreRightAnswers calls (call_notes call ++ before)
