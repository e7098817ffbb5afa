-- The outside actor of a house, which no core belongs to: its journal, and its ends of the links.
use Rattle.std.specs.Prelude.{◌≡◌, ◌⊎◌, ℕ, Bool, ◌+◌, ◌<◌, ◌≤◌, Result, Ok, Err, IfOk, OnErr, length}
use Rattle.base_words.specs.declared.names.JobId.{JobId}
use Rattle.base_words.specs.declared.names.TicketError.{TicketError}
use Rattle.base_words.specs.declared.order.Order.{Order}
use Rattle.base_words.specs.declared.order.Outcome.{Outcome}
use Rattle.base_words.specs.declared.order.SendError.{SendError}
use Rattle.actor_desk.specs.Lanes.{FitsSent}
use Rattle.link_ends.specs.Calls.{Sends}
use Rattle.link_ends.specs.Fits.{Fits}
use Rattle.actor_desk.specs.Submissions.{Submits, numbered}
use Rattle.actor_desk.specs.Tickets.{CollectsFrom, DetachesTicket, GetsAll, GetsNext, RedeemsTicket}
use Rattle.link_ring.specs.Ends.{SameEnds, out_at}
use Rattle.actor_seat.specs.Linked.{Grows}
use Rattle.actor_seat.specs.Seats.{UsesOut}
use Rattle.actor_seat.specs.OutsideSeats.{OutsideView}
use Rattle.host_core.specs.declared.answers.Refusal.{Refusal}
use Rattle.host_core.specs.declared.answers.Refusal.TheVariants as refusal
use Rattle.host_core.specs.declared.job.HostJob.{HostJob}
use Rattle.host_core.specs.Jobs.{host_meaning}
use Rattle.host_core.specs.Submissions.{told_of_send, told_of_ticket}

-- its journal, and its ends
abbrev pub CallerView : Type 0
CallerView = OutsideView HostJob ℕ

-- there is room for so many notes
abbrev pub HasRoom : ℕ → CallerView → Type 0
HasRoom count view = length view.desk.journal.notes + count ≤ view.desk.journal.room

-- what no call changes: whose journal it is and how many notes there may be, the links of its ends, and each note that stands
pub record StaysOutside (old new : CallerView) : Type 0 where
  pub seat : new.desk ≡ record old.desk { journal = record old.desk.journal { notes = new.desk.journal.notes }; lanes = new.desk.lanes }
  pub ends : SameEnds old.ends new.ends
  pub grows : Grows old.desk.journal.notes new.desk.journal.notes

-- an order is sent to a core, and noted if it is accepted
pub record SubmitsTo (to : ℕ) (order : Order HostJob) (old : CallerView) (told : Result JobId Refusal) (new : CallerView) : Type 0 where
  pub answer : Result JobId (SendError HostJob)
  pub submits : Submits to order old.desk answer new.desk
  pub sends : Sends (out_at to old.ends).out (out_at to old.ends).credited order (out_at to new.ends).out (numbered answer)
  pub credited : (out_at to new.ends).credited ≡ (out_at to old.ends).credited
  pub told_is : told ≡ told_of_send answer
  pub uses : UsesOut to old.ends new.ends

-- the same, unless there is no such core, or too little room
abbrev pub Posts : ℕ → Order HostJob → CallerView → Result JobId Refusal → CallerView → Type 0
Posts to order old told new =
    ((old.desk.cores ≤ to) × (told ≡ Err refusal.NoCore) × (new ≡ old))
    ⊎ ((to < old.desk.cores) × (HasRoom 1 old → ⊥) × (told ≡ Err refusal.JournalFull) × (new ≡ old))
    ⊎ ((to < old.desk.cores) × HasRoom 1 old × SubmitsTo to order old told new)

-- all outcomes that the link to a core shows are collected
pub record CollectsOf (core : ℕ) (old : CallerView) (count : ℕ) (new : CallerView) : Type 0 where
  pub collects : CollectsFrom core old.desk count new.desk
  pub all : GetsAll (out_at core old.ends).out (out_at core new.ends).out
  pub uses : UsesOut core old.ends new.ends

-- the same, unless there is no such core, or too little room for as many as a link holds
abbrev pub Collects : ℕ → CallerView → Result ℕ Refusal → CallerView → Type 0
Collects core old (Ok count) new = CollectsOf core old count new
Collects core old (Err refusal.NoCore) new = (old.desk.cores ≤ core) × (new ≡ old)
Collects core old (Err refusal.JournalFull) new = (core < old.desk.cores) × (HasRoom old.desk.cap old → ⊥) × (new ≡ old)
Collects core old (Err other) new = ⊥

-- the next outcome that the link to a core shows is collected, if there is one
pub record CollectsOne (core : ℕ) (old : CallerView) (found : Bool) (new : CallerView) : Type 0 where
  pub gets : GetsNext core old.desk new.desk (out_at core old.ends).out (out_at core new.ends).out found
  pub uses : UsesOut core old.ends new.ends

-- the same, unless there is no such core, or too little room for as many as a link holds
abbrev pub CollectsNext : ℕ → CallerView → Result Bool Refusal → CallerView → Type 0
CollectsNext core old (Ok found) new = CollectsOne core old found new
CollectsNext core old (Err refusal.NoCore) new = (old.desk.cores ≤ core) × (new ≡ old)
CollectsNext core old (Err refusal.JournalFull) new = (core < old.desk.cores) × (HasRoom old.desk.cap old → ⊥) × (new ≡ old)
CollectsNext core old (Err other) new = ⊥

-- an outcome is redeemed, and fits the order that was sent under its name, or the ticket is refused and nothing changes
pub record RedeemsBy (name : JobId) (old : CallerView) (told : Result (Outcome HostJob ℕ) Refusal) (new : CallerView) : Type 0 where
  pub answer : Result (Outcome HostJob ℕ) TicketError
  pub redeems : RedeemsTicket name old.desk answer new.desk
  pub fits : IfOk answer (FitsSent (Fits host_meaning) (out_at name.to old.ends).out name.number)
  pub refused : OnErr answer (new ≡ old)
  pub told_is : told ≡ told_of_ticket answer

-- the same, unless there is too little room
abbrev pub Redeems : JobId → CallerView → Result (Outcome HostJob ℕ) Refusal → CallerView → Type 0
Redeems name old told new = ((HasRoom 1 old → ⊥) × (told ≡ Err refusal.JournalFull) × (new ≡ old)) ⊎ (HasRoom 1 old × RedeemsBy name old told new)

-- a submission is detached, or the ticket is refused and nothing changes
pub record DetachesBy (name : JobId) (old : CallerView) (told : Result (Unit {0}) Refusal) (new : CallerView) : Type 0 where
  pub answer : Result (Unit {0}) TicketError
  pub detaches : DetachesTicket name old.desk answer new.desk
  pub refused : OnErr answer (new ≡ old)
  pub told_is : told ≡ told_of_ticket answer

-- the same, unless there is too little room
abbrev pub Detaches : JobId → CallerView → Result (Unit {0}) Refusal → CallerView → Type 0
Detaches name old told new = ((HasRoom 1 old → ⊥) × (told ≡ Err refusal.JournalFull) × (new ≡ old)) ⊎ (HasRoom 1 old × DetachesBy name old told new)
