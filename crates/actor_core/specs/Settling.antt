-- What settling the poll of the job that is out does.
use Rattle.std.specs.Prelude.{◌≡◌, ℕ, ◌+◌, Option, Some, None, unwrap_or, List, [], ◌∷◌}
use Rattle.base_words.specs.declared.names.JobId.{JobId}
use Rattle.base_words.specs.declared.order.Order.TheVariants.{Job}
use Rattle.base_words.specs.Commands.{stays_in_line}
use Rattle.base_jobs.specs.Calls.{Call}
use Rattle.base_jobs.specs.Meanings.{Meaning}
use Rattle.base_jobs.specs.Steps.{AfterPoll, IfDone, IfUndone, OwesOn}
use Rattle.core_core.specs.State.{JobOut}
use Rattle.core_core.specs.declared.turn.Settled.{Settled}
use Rattle.core_core.specs.Whole.{settled_of}
use Rattle.actor_core.specs.Polls.{polls_made, settle_note}
use Rattle.actor_core.specs.Recorded.{RecordedView, order_taken}
use Rattle.actor_core.specs.Steps.{with_notes}

-- the job that is out is this one
abbrev pub IsOut : {J : Type 0} → Option (JobOut J) → J → Type 0
IsOut None job = ⊥
IsOut (Some out) job = out.job ≡ job

-- and this is its name
abbrev pub IsOutUnder : {J : Type 0} → Option (JobOut J) → JobId → Type 0
IsOutUnder None name = ⊥
IsOutUnder (Some out) name = out.name ≡ name

-- what may answer a poll, and what it leaves of its job
pub record IsPolled {J T : Type 0} (meaning : Meaning J T) (ran : AfterPoll J T) : Type 0 where
  pub answered : IfDone ran.step (meaning.answers ran.before)
  pub same_task : IfUndone ran.step (meaning.same ran.before ran.job)
  pub later : IfUndone ran.step (OwesOn meaning ran.before ran.job)

module _ {J T : Type 0} (meaning : Meaning J T) where
  -- the poll of the job that was out is settled: what it owed with the calls of its post, the job that was sent owes, counted from its own polls; a job that asks to be parked stays exactly where the journal says so
  pub record Settles (old : RecordedView J T) (ran : AfterPoll J T) (spent : ℕ) (settled : Settled T) (new : RecordedView J T) : Type 0 where
    pub out : JobOut J
    pub was_out : old.core.out ≡ Some out
    pub sent : J
    pub task : order_taken old.took out.name ≡ Some (Job out.queue sent)
    pub owed : (calls : List (Call J T)) → meaning.polls ran.before (meaning.made ran.before) calls ran.step ran.told → meaning.polls sent (meaning.made sent + polls_made out.name old.journal.notes) calls ran.step ran.told
    pub answered : IfDone ran.step (meaning.answers sent)
    pub tells : settled ≡ settled_of ran.step (stays_in_line out.name old.journal.notes)
    pub journal : new.journal ≡ with_notes (settle_note out.name (unwrap_or ran.told spent) settled ∷ []) old.journal
    pub out_now : new.core.out ≡ None
    pub took : new.took ≡ old.took
