-- How a core of a host wakes a job of its own.
use Rattle.std.specs.Prelude.{◌≡◌, true, false, Option, Some, None, Result, Ok, Err}
use Rattle.base_words.specs.Closing.{final_count}
use Rattle.base_words.specs.declared.names.JobId.{JobId}
use Rattle.core_core.specs.State.{JobOut}
use Rattle.core_queues.specs.View.{QueuesView}
use Rattle.core_queues.specs.Waking.{IsParkedAs}
use Rattle.actor_seat.specs.Wakes.{WakesOwn}
use Rattle.host_core.specs.declared.answers.Refusal.{Refusal}
use Rattle.host_core.specs.declared.answers.Refusal.TheVariants as refusal
use Rattle.host_core.specs.declared.job.HostJob.{HostJob}
use Rattle.host_core.specs.Hosted.{HostedView, HasRoom}

-- the name of the job that is out
abbrev pub name_out : Option (JobOut HostJob) → Option JobId
name_out None = None
name_out (Some out) = Some out.name

-- a wake of this job would find it parked
abbrev pub HasParked : QueuesView HostJob → JobId → Type 0
HasParked queues name = (job : HostJob) × IsParkedAs queues name job

-- The core sends itself the wake of this job; or there is too little room for the two notes, its own gate is shut, or its link to itself refuses the wake though
-- the gate is open.
abbrev pub WakesItself : JobId → HostedView → Result (Unit {0}) Refusal → HostedView → Type 0
WakesItself job old (Ok done) new = HasRoom 2 old.recorded × WakesOwn job old true new
WakesItself job old (Err refusal.JournalFull) new = (HasRoom 2 old.recorded → ⊥) × (new ≡ old)
WakesItself job old (Err (refusal.Closed last)) new =
    HasRoom 2 old.recorded × (final_count old.recorded.core.core old.recorded.journal.notes ≡ Some last) × WakesOwn job old false new
WakesItself job old (Err refusal.Full) new = HasRoom 2 old.recorded × (final_count old.recorded.core.core old.recorded.journal.notes ≡ None) × WakesOwn job old false new
WakesItself job old (Err other) new = ⊥
