-- What each call of a lent desk does: it determines the answer and the desk, from the desk as it was and from the end that it uses.
use Rattle.std.specs.Prelude.{◌≡◌, ◌⊎◌, ℕ, ◌<◌, ◌≤◌, List, Some, slice_get, slice_set, Result, Err, IfOk}
use Rattle.base_words.specs.declared.names.JobId.{JobId}
use Rattle.base_words.specs.declared.names.TicketError.{TicketError}
use Rattle.base_words.specs.declared.names.TicketError.TheVariants.{Unknown}
use Rattle.base_words.specs.declared.order.Order.{Order}
use Rattle.base_words.specs.declared.order.Outcome.{Outcome}
use Rattle.base_words.specs.declared.order.SendError.{SendError}
use Rattle.base_words.specs.declared.order.SendError.TheVariants.{NoCore}
use Rattle.base_jobs.specs.Calls.{Call}
use Rattle.base_jobs.specs.Calls.Call.{Submit, Redeem, Detach}
use Rattle.link_ends.specs.declared.ends.Outward.{Outward}
use Rattle.link_ends.specs.Calls.{Sends}
use Rattle.actor_desk.specs.Lanes.{IsGot, FitsSent}
use Rattle.actor_desk.specs.Submissions.{DeskView, Submits, numbered}
use Rattle.actor_desk.specs.Tickets.{StaysBeside, RefusesTicket, RedeemsTicket, DetachesTicket}
use Rattle.actor_desk.specs.Spending.{Spends}
use Rattle.actor_desk.specs.Posts.{PostView}

-- the ticket is this actor's, and there is a core of its number
abbrev pub Knows : {J T : Type 0} → DeskView J T → JobId → Type 0
Knows desk name = (name.from ≡ desk.actor) × (name.to < desk.cores)

module _ {J T E : Type 0} (fit : Order J → Outcome J T → Type 0) (out_of : E → Outward J T) (credits : E → ℕ) (keeps : E → List ℕ) where
  -- a call on the end of one core, which stays beside the desk; no other end changes
  pub record LendsEnd (core : ℕ) (old new : PostView J T E) : Type 0 where
    pub end : E
    pub later : E
    pub is : slice_get old.ends core ≡ Some end
    pub ends : new.ends ≡ slice_set old.ends core later
    pub stays : StaysBeside fit core old.desk new.desk (out_of later) (credits later)
    pub untouched : keeps later ≡ keeps end

  -- an order is sent to a core that there is, and noted if it is accepted
  pub record SubmitsOn (to : ℕ) (order : Order J) (answer : Result JobId (SendError J)) (old new : PostView J T E) : Type 0 where
    pub lent : LendsEnd to old new
    pub submits : Submits to order old.desk answer new.desk
    pub sends : Sends (out_of lent.end) (credits lent.end) order (out_of lent.later) (numbered answer)
    pub credited : credits lent.later ≡ credits lent.end
    pub spends : IfOk answer (λ _. Spends to 3 old.desk new.desk)

  -- the outcome of a submission is redeemed and noted, or the ticket is refused
  pub record RedeemsOn (name : JobId) (answer : Result (Outcome J T) TicketError) (old new : PostView J T E) : Type 0 where
    pub knows : Knows old.desk name
    pub lent : LendsEnd name.to old new
    pub redeems : RedeemsTicket name old.desk answer new.desk
    pub given : IfOk answer (IsGot (out_of lent.end) name.number)
    pub fits : IfOk answer (FitsSent fit (out_of lent.end) name.number)
    pub out : out_of lent.later ≡ out_of lent.end
    pub spends : IfOk answer (λ _. Spends name.to 0 old.desk new.desk)

  -- a submission is detached and noted, or the ticket is refused
  pub record DetachesOn (name : JobId) (answer : Result (Unit {0}) TicketError) (old new : PostView J T E) : Type 0 where
    pub knows : Knows old.desk name
    pub lent : LendsEnd name.to old new
    pub detaches : DetachesTicket name old.desk answer new.desk
    pub out : out_of lent.later ≡ out_of lent.end
    pub spends : IfOk answer (λ _. Spends name.to 0 old.desk new.desk)

  -- a ticket that isn't known is refused, and nothing changes
  abbrev pub RefusesUnknown : {A : Type 0} → JobId → Result A TicketError → PostView J T E → PostView J T E → Type 0
  RefusesUnknown name answer old new = (Knows old.desk name → ⊥) × (answer ≡ Err Unknown) × RefusesTicket name Unknown old.desk.journal.notes × (new ≡ old)

  -- one call
  abbrev pub Does : PostView J T E → Call J T → PostView J T E → Type 0
  Does old (Submit to order answer) new = ((old.desk.cores ≤ to) × (answer ≡ Err (NoCore order)) × (new ≡ old)) ⊎ SubmitsOn to order answer old new
  Does old (Redeem name answer) new = RefusesUnknown name answer old new ⊎ RedeemsOn name answer old new
  Does old (Detach name answer) new = RefusesUnknown name answer old new ⊎ DetachesOn name answer old new
