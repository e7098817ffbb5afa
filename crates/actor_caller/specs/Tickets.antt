-- What the outside actor's calls on outcomes and tickets do.
use Rattle.std.specs.Prelude.{◌≡◌, ℕ, ◌+◌, ◌<◌, ◌≤◌, Some, Result, IfOk, OnErr}
use Rattle.base_words.specs.declared.names.JobId.{JobId}
use Rattle.base_words.specs.declared.names.TicketError.{TicketError}
use Rattle.base_words.specs.declared.order.Order.{Order}
use Rattle.base_words.specs.declared.order.Outcome.{Outcome}
use Rattle.base_words.specs.Filters.{collected_outcomes}
use Rattle.actor_desk.specs.Lanes.{IsGot}
use Rattle.link_ring.specs.Ends.{out_at}
use Rattle.actor_desk.specs.Ends.{named_outcomes}
use Rattle.actor_desk.specs.Tickets.{CollectsFrom, DetachesTicket, GetsAll, RedeemsTicket}
use Rattle.actor_caller.specs.State.{RuntimeView, SubmitsNothing, submitted_under}

module _ {J T : Type 0} where
  -- So many outcomes of a core that there is are collected, all that its link shows, and each is noted. What the journal tells as collected is then
  -- what the link shows: each outcome under its name, in their order.
  pub record CollectsHere (core : ℕ) (old : RuntimeView J T) (count : ℕ) (new : RuntimeView J T) : Type 0 where
    pub collects : CollectsFrom core old.desk count new.desk
    pub shown : GetsAll (out_at core old.ends).out (out_at core new.ends).out
    pub told : collected_outcomes core new.desk.journal.notes ≡ named_outcomes new.desk.actor core (out_at core new.ends).out.seen
    pub counted : (out_at core old.ends).out.got + count ≡ (out_at core new.ends).out.got
    pub nothing : SubmitsNothing old new

  -- the same, or there is no such core
  pub record Collects (core : ℕ) (old : RuntimeView J T) (count : ℕ) (new : RuntimeView J T) : Type 0 where
    pub there : core < old.desk.cores → CollectsHere core old count new
    pub missing : old.desk.cores ≤ core → (count ≡ 0) × (new ≡ old)

  -- the outcome fits the order that was submitted under this name
  pub record FitsSubmitted (fits : Order J → Outcome J T → Type 0) (name : JobId) (view : RuntimeView J T) (outcome : Outcome J T) : Type 0 where
    pub order : Order J
    pub is : submitted_under name view ≡ Some order
    pub fit : fits order outcome

  -- an outcome that was collected under this name is redeemed, and it fits its order; or the ticket is refused and nothing changes
  pub record RedeemsHere (fits : Order J → Outcome J T → Type 0) (name : JobId) (old : RuntimeView J T) (answer : Result (Outcome J T) TicketError) (new : RuntimeView J T) : Type 0 where
    pub redeems : RedeemsTicket name old.desk answer new.desk
    pub given : IfOk answer (IsGot (out_at name.to old.ends).out name.number)
    pub fitting : IfOk answer (FitsSubmitted fits name old)
    pub refused : OnErr answer (new ≡ old)
    pub nothing : SubmitsNothing old new

  -- a submission is detached, or the ticket is refused and nothing changes
  pub record DetachesHere (name : JobId) (old : RuntimeView J T) (answer : Result (Unit {0}) TicketError) (new : RuntimeView J T) : Type 0 where
    pub detaches : DetachesTicket name old.desk answer new.desk
    pub refused : OnErr answer (new ≡ old)
    pub nothing : SubmitsNothing old new
