-- A core beside its actor's ends, whatever job of it is out, and what it does with its own submissions and picks.
use Rattle.std.specs.Prelude.{◌≡◌, ◌≢◌, ℕ, Result, Ok, Err, IfOk, OnErr}
use Rattle.base_words.specs.declared.names.JobId.{JobId}
use Rattle.base_words.specs.declared.names.TicketError.{TicketError}
use Rattle.base_words.specs.declared.order.Order.{Order}
use Rattle.base_words.specs.declared.order.Outcome.{Outcome}
use Rattle.base_words.specs.declared.order.SendError.{SendError}
use Rattle.base_jobs.specs.Meanings.{Meaning}
use Rattle.core_core.specs.declared.turn.Ahead.TheVariants as ahead
use Rattle.core_core.specs.declared.turn.Turn.{Turn}
use Rattle.core_core.specs.declared.turn.Turn.TheVariants as turn
use Rattle.core_core.specs.declared.turn.PickError.{PickError}
use Rattle.core_core.specs.Answers.{IsReadyTurn}
use Rattle.core_core.specs.Whole.{TellsAhead}
use Rattle.actor_desk.specs.Lanes.{FitsSent}
use Rattle.link_ends.specs.Calls.{Sends}
use Rattle.link_ends.specs.Fits.{Fits}
use Rattle.actor_core.specs.Recorded.{RecordedView, IsRecorded, desk_of}
use Rattle.actor_core.specs.Turns.{IsBack, Picks}
use Rattle.actor_desk.specs.Submissions.{Submits, numbered}
use Rattle.actor_desk.specs.Tickets.{RedeemsTicket, DetachesTicket}
use Rattle.link_ring.specs.Ends.{EndsView, out_at}
use Rattle.actor_seat.specs.declared.seat.Taken.{Taken}
use Rattle.actor_seat.specs.declared.seat.Taken.TheVariants as taken
use Rattle.actor_seat.specs.Linked.{LinkedView, AreBeside, StaysLinked}

module _ {J T : Type 0} (meaning : Meaning J T) where
  -- the core is recorded, and its ends are what its journal says of them
  pub record IsSeated (view : LinkedView J T) : Type 0 where
    pub recorded : IsRecorded meaning view.recorded
    pub beside : AreBeside (Fits meaning) view.recorded view.ends

module _ {J : Type 0} where
  -- what is told of a turn once a job that goes back was given back: its order is its sender's then
  abbrev pub taken_of : Result (Turn J) PickError → Result (Taken J) PickError
  taken_of (Ok (turn.Start name queue job)) = Ok (taken.Start name queue job)
  taken_of (Ok (turn.Resume name queue job)) = Ok (taken.Resume name queue job)
  taken_of (Ok (turn.Back name order reason)) = Ok (taken.Back name reason)
  taken_of (Ok turn.Idle) = Ok taken.Idle
  taken_of (Err error) = Err error

module _ {J T : Type 0} (meaning : Meaning J T) where
  -- a pick of the core, and what is told of it; a job that was told ahead to go back does so
  pub record PicksTaken (old : RecordedView J T) (told : Result (Taken J) PickError) (new : RecordedView J T) : Type 0 where
    pub turned : Result (Turn J) PickError
    pub picks : Picks meaning old turned new
    pub ready : IsReadyTurn meaning turned
    pub back : TellsAhead old.core (Ok ahead.Back) → IsBack turned
    pub told_is : told ≡ taken_of turned

module _ {J T : Type 0} where
  -- no end changes but the one to this core
  pub record UsesOut (core : ℕ) (old new : EndsView J T) : Type 0 where
    pub others : (other : ℕ) → other ≢ core → out_at other new ≡ out_at other old
    pub rest : new ≡ record old { outs = new.outs }

  -- an order is sent to a core, and noted if it is accepted
  pub record SubmitsOn (to : ℕ) (order : Order J) (old : LinkedView J T) (answer : Result JobId (SendError J)) (new : LinkedView J T) : Type 0 where
    pub submits : Submits to order (desk_of old.recorded) answer (desk_of new.recorded)
    pub sends : Sends (out_at to old.ends).out (out_at to old.ends).credited order (out_at to new.ends).out (numbered answer)
    pub uses : UsesOut to old.ends new.ends
    pub rest : new.recorded ≡ record old.recorded { journal = new.recorded.journal; lanes = new.recorded.lanes }
    pub stays : StaysLinked old new

  -- a submission is detached, or its ticket is refused and nothing changes
  pub record DetachesOn (name : JobId) (old : LinkedView J T) (answer : Result (Unit {0}) TicketError) (new : LinkedView J T) : Type 0 where
    pub detaches : DetachesTicket name (desk_of old.recorded) answer (desk_of new.recorded)
    pub refused : OnErr answer (new ≡ old)
    pub uses : UsesOut name.to old.ends new.ends
    pub rest : new.recorded ≡ record old.recorded { journal = new.recorded.journal; lanes = new.recorded.lanes }
    pub stays : StaysLinked old new

  -- an outcome is redeemed, and fits the order that was sent under its name, or the ticket is refused and nothing changes
  pub record RedeemsOn (meaning : Meaning J T) (name : JobId) (old : LinkedView J T) (answer : Result (Outcome J T) TicketError) (new : LinkedView J T) : Type 0 where
    pub redeems : RedeemsTicket name (desk_of old.recorded) answer (desk_of new.recorded)
    pub fits : IfOk answer (FitsSent (Fits meaning) (out_at name.to old.ends).out name.number)
    pub refused : OnErr answer (new ≡ old)
    pub uses : UsesOut name.to old.ends new.ends
    pub rest : new.recorded ≡ record old.recorded { journal = new.recorded.journal; lanes = new.recorded.lanes }
    pub stays : StaysLinked old new
