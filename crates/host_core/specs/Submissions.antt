-- What an actor of the house does with its submissions, by what the host is told.
use Rattle.std.specs.Prelude.{◌≡◌, ◌⊎◌, ℕ, ◌<◌, ◌≤◌, false, Result, Ok, Err, IfOk, OnErr}
use Rattle.base_words.specs.declared.names.JobId.{JobId}
use Rattle.base_words.specs.declared.names.TicketError.{TicketError}
use Rattle.base_words.specs.declared.names.TicketError.TheVariants as ticket
use Rattle.base_words.specs.declared.order.Order.{Order}
use Rattle.base_words.specs.declared.order.Order.TheVariants as order
use Rattle.base_words.specs.declared.order.Outcome.{Outcome}
use Rattle.base_words.specs.declared.order.SendError.{SendError}
use Rattle.base_words.specs.declared.order.SendError.TheVariants as send
use Rattle.actor_desk.specs.Lanes.{FitsSent}
use Rattle.link_ends.specs.Calls.{Sends}
use Rattle.link_ends.specs.Fits.{Fits}
use Rattle.actor_core.specs.Recorded.{desk_of}
use Rattle.actor_desk.specs.Submissions.{Submits, numbered}
use Rattle.actor_desk.specs.Tickets.{RedeemsTicket, DetachesTicket}
use Rattle.link_ring.specs.Ends.{out_at}
use Rattle.actor_seat.specs.Seats.{UsesOut}
use Rattle.host_core.specs.declared.answers.Refusal.{Refusal}
use Rattle.host_core.specs.declared.answers.Refusal.TheVariants as refusal
use Rattle.host_core.specs.declared.job.HostJob.{HostJob}
use Rattle.host_core.specs.Hosted.{HostedView, HasRoom}
use Rattle.host_core.specs.Jobs.{host_meaning}

-- an order of the host, with the job of its number, which wasn't run yet
abbrev pub order_of_host : Order ℕ → Order HostJob
order_of_host (order.Job queue handle) = order.Job queue (record { handle = handle; ended = false })
order_of_host (order.Create weight) = order.Create weight
order_of_host (order.SetShares queue weight) = order.SetShares queue weight
order_of_host (order.Close queue mode) = order.Close queue mode
order_of_host (order.CloseCore mode) = order.CloseCore mode
order_of_host (order.Wake actor number) = order.Wake actor number

-- what the host is told of a submission
abbrev pub told_of_send : Result JobId (SendError HostJob) → Result JobId Refusal
told_of_send (Ok name) = Ok name
told_of_send (Err (send.Closed back last)) = Err (refusal.Closed last)
told_of_send (Err (send.Full back)) = Err refusal.Full
told_of_send (Err (send.Spent back)) = Err refusal.Spent
told_of_send (Err (send.NoCore back)) = Err refusal.NoCore

-- what the host is told of a ticket
abbrev pub refusal_of_ticket : TicketError → Refusal
refusal_of_ticket ticket.Unknown = refusal.Unknown
refusal_of_ticket ticket.Gone = refusal.Gone
refusal_of_ticket ticket.Pending = refusal.Pending

abbrev pub told_of_ticket : {A : Type 0} → Result A TicketError → Result A Refusal
told_of_ticket (Ok outcome) = Ok outcome
told_of_ticket (Err error) = Err (refusal_of_ticket error)

-- an order is sent to a core, and noted if it is accepted
pub record SubmitsTo (to : ℕ) (order : Order HostJob) (old : HostedView) (told : Result JobId Refusal) (new : HostedView) : Type 0 where
  pub answer : Result JobId (SendError HostJob)
  pub submits : Submits to order (desk_of old.recorded) answer (desk_of new.recorded)
  pub sends : Sends (out_at to old.ends).out (out_at to old.ends).credited order (out_at to new.ends).out (numbered answer)
  pub told_is : told ≡ told_of_send answer
  pub uses : UsesOut to old.ends new.ends
  pub rest : new.recorded ≡ record old.recorded { journal = new.recorded.journal; lanes = new.recorded.lanes }

-- the same, unless there is no such core, or too little room
abbrev pub Posts : ℕ → Order HostJob → HostedView → Result JobId Refusal → HostedView → Type 0
Posts to order old told new =
    ((old.recorded.core.cores ≤ to) × (told ≡ Err refusal.NoCore) × (new ≡ old))
    ⊎ ((to < old.recorded.core.cores) × (HasRoom 1 old.recorded → ⊥) × (told ≡ Err refusal.JournalFull) × (new ≡ old))
    ⊎ ((to < old.recorded.core.cores) × HasRoom 1 old.recorded × SubmitsTo to order old told new)

-- an outcome is redeemed, and fits the order that was sent under its name, or the ticket is refused and nothing changes
pub record RedeemsBy (name : JobId) (old : HostedView) (told : Result (Outcome HostJob ℕ) Refusal) (new : HostedView) : Type 0 where
  pub answer : Result (Outcome HostJob ℕ) TicketError
  pub redeems : RedeemsTicket name (desk_of old.recorded) answer (desk_of new.recorded)
  pub fits : IfOk answer (FitsSent (Fits host_meaning) (out_at name.to old.ends).out name.number)
  pub refused : OnErr answer (new ≡ old)
  pub told_is : told ≡ told_of_ticket answer
  pub rest : new.recorded ≡ record old.recorded { journal = new.recorded.journal; lanes = new.recorded.lanes }

-- the same, unless there is too little room
abbrev pub Redeems : JobId → HostedView → Result (Outcome HostJob ℕ) Refusal → HostedView → Type 0
Redeems name old told new = ((HasRoom 1 old.recorded → ⊥) × (told ≡ Err refusal.JournalFull) × (new ≡ old)) ⊎ (HasRoom 1 old.recorded × RedeemsBy name old told new)

-- a submission is detached, or the ticket is refused and nothing changes
pub record DetachesBy (name : JobId) (old : HostedView) (told : Result (Unit {0}) Refusal) (new : HostedView) : Type 0 where
  pub answer : Result (Unit {0}) TicketError
  pub detaches : DetachesTicket name (desk_of old.recorded) answer (desk_of new.recorded)
  pub refused : OnErr answer (new ≡ old)
  pub told_is : told ≡ told_of_ticket answer
  pub rest : new.recorded ≡ record old.recorded { journal = new.recorded.journal; lanes = new.recorded.lanes }

-- the same, unless there is too little room
abbrev pub Detaches : JobId → HostedView → Result (Unit {0}) Refusal → HostedView → Type 0
Detaches name old told new = ((HasRoom 1 old.recorded → ⊥) × (told ≡ Err refusal.JournalFull) × (new ≡ old)) ⊎ (HasRoom 1 old.recorded × DetachesBy name old told new)
