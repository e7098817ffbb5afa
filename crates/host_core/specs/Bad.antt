-- Answers that no call may give, each refused by the definition that judges it.
use Rattle.std.specs.Prelude.{[], ◌∷◌, Err}
use Rattle.base_jobs.specs.Calls.Call.{Redeem}
use Rattle.base_jobs.specs.declared.job.Step.TheVariants.{Done, Yield}
use Rattle.base_words.specs.declared.names.JobId.{JobId}
use Rattle.base_words.specs.declared.names.TicketError.TheVariants.{Pending}
use Rattle.host_core.specs.declared.answers.Refusal.TheVariants as refusal
use Rattle.host_core.specs.Hosted.{HostedView}
use Rattle.host_core.specs.Jobs.{AsksOnce}
use Rattle.host_core.specs.Turns.{SettlesStep}

-- a job is done that hears that its run isn't
pub done_unheard : (name : JobId) → AsksOnce (Redeem name (Err Pending) ∷ []) (Done 0) → ⊥
done_unheard name told = cc told

-- a job doesn't ask
pub unasked : AsksOnce [] Yield → ⊥
unasked told = told

-- a settled run is told that the journal is full
pub settling_is_full : (old new : HostedView) → SettlesStep old Yield 10 (Err refusal.JournalFull) new → ⊥
settling_is_full old new told = told
