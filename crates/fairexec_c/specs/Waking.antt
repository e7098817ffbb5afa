-- How the host wakes a job by its number: the core before, the number, the code, and the core after.
use Rattle.std.specs.Prelude.{◌≡◌, ℕ, ◌-◌, ◌^◌, ◌<◌, ◌≤◌, true, false}
use Rattle.base_words.specs.declared.names.JobId.{JobId}
use Rattle.base_words.specs.Commands.{job_at}
use Rattle.core_core.specs.State.{CoreView, delivered_of, inside_count}
use Rattle.core_core.specs.Deliveries.{counted}
use Rattle.core_core.specs.Waking.{Wakes}
use Rattle.host_calls.specs.declared.code.Code.{Code}
use Rattle.host_calls.specs.declared.code.Code.TheVariants as code
use Rattle.host_core.specs.declared.job.HostJob.{HostJob}
use Rattle.fairexec_c.specs.Hosting.{TakesOrders, next_name}

-- a job's number is told as it enters; else what stood there stays
abbrev pub TellsNumber : CoreView HostJob → ℕ → Code → ℕ → Type 0
TellsNumber old before code.Ok after = after ≡ (next_name old).number
TellsNumber old before other after = after ≡ before

-- the core once the next order of the host is counted
abbrev pub with_order : CoreView HostJob → CoreView HostJob
with_order old = record old { delivered = counted (next_name old) old }

-- a wake is an order of the host: it is counted, and then wakes this job, if it is inside; a core that is full takes no order
abbrev pub WakesInside : JobId → CoreView HostJob → Code → CoreView HostJob → Type 0
WakesInside job old code.Ok new = TakesOrders old × Wakes (with_order old) job true new
WakesInside job old code.Full new = (old.queues.room ≤ inside_count old) × (new ≡ old)
WakesInside job old code.Spent new = (inside_count old < old.queues.room) × (delivered_of 1 old ≡ 2 ^ 64 - 1) × (new ≡ old)
WakesInside job old code.Absent new = TakesOrders old × Wakes (with_order old) job false new
WakesInside job old other new = ⊥

-- the job of this number is woken
abbrev pub WakesNumber : CoreView HostJob → ℕ → Code → CoreView HostJob → Type 0
WakesNumber old number told new = WakesInside (job_at old.core 1 number) old told new

-- the job of this name's sender and number is woken
abbrev pub WakesNamed : JobId → CoreView HostJob → Code → CoreView HostJob → Type 0
WakesNamed name old told new = WakesInside (job_at old.core name.from name.number) old told new
