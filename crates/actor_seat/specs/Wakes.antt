-- How a core wakes a job of its own: by an order on its link to itself.
use Rattle.std.specs.Prelude.{◌≡◌, ℕ, Bool, true, false, Err, ◌∷◌}
use Rattle.base_words.specs.declared.names.JobId.{JobId}
use Rattle.base_words.specs.declared.note.Note.TheVariants as writes
use Rattle.base_words.specs.declared.order.Order.TheVariants.{Wake}
use Rattle.base_words.specs.declared.order.SendError.{SendError}
use Rattle.link_ends.specs.Calls.{Sends}
use Rattle.link_ring.specs.Ends.{in_at, out_at}
use Rattle.actor_seat.specs.Linked.{LinkedView}
use Rattle.actor_seat.specs.Seats.{UsesOut}

module _ {J T : Type 0} where
  -- The link of the core to itself took the wake of this job, under a name, and the core let go of its outcome at once. Two notes say so. Besides them only
  -- what is known of its submissions changes.
  pub record SendsOwnWake (job : JobId) (old new : LinkedView J T) : Type 0 where
    pub name : JobId
    pub from : name.from ≡ old.recorded.core.core
    pub to : name.to ≡ old.recorded.core.core
    pub notes : new.recorded.journal.notes ≡ writes.Detached name ∷ writes.Sent name (Wake job.from job.number) ∷ old.recorded.journal.notes
    pub rest : new.recorded ≡ record old.recorded { journal = record old.recorded.journal { notes = new.recorded.journal.notes }; lanes = new.recorded.lanes }

  -- the link refused the wake of this job, since its gate is shut, it is full, or its last number was given; the core and its journal stay as they were
  pub record RefusesOwnWake (job : JobId) (old new : LinkedView J T) : Type 0 where
    pub error : SendError J
    pub refuses : let own = old.recorded.core.core in Sends (out_at own old.ends).out (out_at own old.ends).credited (Wake job.from job.number) (out_at own new.ends).out (Err error)
    pub rest : new.recorded ≡ old.recorded

  -- what the link did, by whether it took the wake
  abbrev pub TellsOwnWake : JobId → LinkedView J T → Bool → LinkedView J T → Type 0
  TellsOwnWake job old true new = SendsOwnWake job old new
  TellsOwnWake job old false new = RefusesOwnWake job old new

  -- A core sends itself the wake of this job, or its link refuses it. Each end stays as it was, except the one on which it sends to itself.
  pub record WakesOwn (job : JobId) (old : LinkedView J T) (taken : Bool) (new : LinkedView J T) : Type 0 where
    pub tells : TellsOwnWake job old taken new
    pub uses : UsesOut old.recorded.core.core old.ends new.ends
    pub ins : (sender : ℕ) → in_at sender new.ends ≡ in_at sender old.ends
