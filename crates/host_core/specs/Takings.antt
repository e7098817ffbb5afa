-- What a turn comes to for the host, once the outcome of a job that goes back was given.
use Rattle.std.specs.Prelude.{Option, Some, None, Result, Ok, Err}
use Rattle.core_core.specs.declared.turn.PickError.{PickError}
use Rattle.core_core.specs.declared.turn.PickError.TheVariants as error
use Rattle.actor_seat.specs.declared.seat.Taken.{Taken}
use Rattle.actor_seat.specs.declared.seat.Taken.TheVariants as taken
use Rattle.host_core.specs.declared.answers.Picked.{Picked}
use Rattle.host_core.specs.declared.answers.Picked.TheVariants as picked
use Rattle.host_core.specs.declared.answers.Refusal.{Refusal}
use Rattle.host_core.specs.declared.answers.Refusal.TheVariants as refusal
use Rattle.host_core.specs.declared.job.HostJob.{HostJob}
use Rattle.host_core.specs.declared.turns.Run.{Run}

-- a turn by a pick, or within an open turn; the order of a job that went back is its sender's
abbrev pub Taking : Type 0
Taking = Result (Taken HostJob) PickError

-- what the host is told of a turn: of a job by its name, its queue and the host's number of it
abbrev pub told_taking : Taking → Result Picked Refusal
told_taking (Ok (taken.Start name queue job)) = Ok (picked.Start name queue job.handle)
told_taking (Ok (taken.Resume name queue job)) = Ok (picked.Resume name queue job.handle)
told_taking (Ok (taken.Back name reason)) = Ok (picked.Back name reason)
told_taking (Ok taken.Idle) = Ok picked.Idle
told_taking (Err error.Busy) = Err refusal.Busy
told_taking (Err error.Spent) = Err refusal.Spent

-- the job that the host is to run
abbrev pub run_of : Taking → Option Run
run_of (Ok (taken.Start name queue job)) = Some (record { name = name; job = job })
run_of (Ok (taken.Resume name queue job)) = Some (record { name = name; job = job })
run_of (Ok (taken.Back name reason)) = None
run_of (Ok taken.Idle) = None
run_of (Err error) = None
