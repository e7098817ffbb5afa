-- How the host runs jobs: the core tells the next one, and settles its run.
use Rattle.std.specs.Prelude.{◌≡◌, ◌==◌, if◌then◌else◌, ℕ, Option, Some, None, Result, Ok, Err, List}
use Rattle.base_words.specs.declared.note.Note.{Note}
use Rattle.base_words.specs.declared.order.Order.TheVariants as orders
use Rattle.base_jobs.specs.declared.job.Step.{Step}
use Rattle.base_jobs.specs.declared.job.Step.TheVariants.{Done, Yield, Park}
use Rattle.base_jobs.specs.Steps.{AfterPoll, IfUndone}
use Rattle.core_core.specs.declared.turn.Turn.{Turn}
use Rattle.core_core.specs.declared.turn.Turn.TheVariants.{Start, Resume, Back, Idle}
use Rattle.core_core.specs.declared.turn.PickError.{PickError}
use Rattle.core_core.specs.declared.turn.PickError.TheVariants.{Busy, Spent}
use Rattle.core_core.specs.declared.turn.Settled.{Settled}
use Rattle.core_core.specs.declared.turn.Settled.TheVariants.{Yielded, Parked, Stayed, Finished}
use Rattle.core_core.specs.State.{CoreView}
use Rattle.core_core.specs.Answers.{IsTaskOut}
use Rattle.core_core.specs.Turns.{Picks}
use Rattle.core_core.specs.Settling.{SettlesOut}
use Rattle.host_calls.specs.declared.code.Code.{Code}
use Rattle.host_calls.specs.declared.code.Code.TheVariants as code
use Rattle.host_core.specs.declared.job.HostJob.{HostJob}
use Rattle.host_core.specs.Jobs.{host_meaning}

-- the code of a pick
abbrev pub code_of_turn : Result (Turn HostJob) PickError → Code
code_of_turn (Ok (Start name queue job)) = code.Start
code_of_turn (Ok (Resume name queue job)) = code.Resume
code_of_turn (Ok (Back name order reason)) = code.Back
code_of_turn (Ok Idle) = code.Idle
code_of_turn (Err Busy) = code.Busy
code_of_turn (Err Spent) = code.Spent

-- the job that the host is told, or what stood there before
abbrev pub handle_told : Result (Turn HostJob) PickError → ℕ → ℕ
handle_told (Ok (Start name queue job)) before = job.handle
handle_told (Ok (Resume name queue job)) before = job.handle
handle_told (Ok (Back name (orders.Job queue job) reason)) before = job.handle
handle_told turn before = before

-- a pick, with its code and the job that it tells; no turn is open, since each run is one
pub record Nexts (old : CoreView HostJob) (before : ℕ) (told : Code) (after : ℕ) (new : CoreView HostJob) : Type 0 where
  pub turn : Result (Turn HostJob) PickError
  pub written : List (Note ℕ)
  pub picks : Picks old turn new written
  pub code : told ≡ code_of_turn turn
  pub no_turn : old.bursts.open ≡ None
  pub job : after ≡ handle_told turn before

-- the code of a settled run; one that asks to be parked and stays in its queue is told as one that yields
abbrev pub code_of_settled : Settled ℕ → Code
code_of_settled Yielded = code.Ok
code_of_settled Parked = code.Parked
code_of_settled Stayed = code.Ok
code_of_settled (Finished answer) = code.Done

-- the run of the job that is out came to this step, and took so many nanoseconds; a job that goes back is that job
pub record SettlesRun (old : CoreView HostJob) (step : Step ℕ) (spent : ℕ) (told : Code) (new : CoreView HostJob) : Type 0 where
  pub ran : AfterPoll HostJob ℕ
  pub settled : Settled ℕ
  pub written : List (Note ℕ)
  pub settles : SettlesOut old ran spent settled new written
  pub stepped : ran.step ≡ step
  pub untimed : ran.told ≡ None
  pub same : IfUndone ran.step (IsTaskOut host_meaning old.out ran.job)
  pub code : told ≡ code_of_settled settled

-- the step of a number, if it is one
abbrev pub step_of : ℕ → Option (Step ℕ)
step_of number = if number == 0 then Some Yield else if number == 1 then Some (Done 0) else if number == 2 then Some Park else None

-- a run is settled; a number that is no step comes before a job that isn't there
abbrev pub SettlesStep : CoreView HostJob → Option (Step ℕ) → ℕ → Code → CoreView HostJob → Type 0
SettlesStep old None spent code.BadNumber new = new ≡ old
SettlesStep old (Some step) spent code.NoJob new = (old.out ≡ None) × (new ≡ old)
SettlesStep old (Some step) spent code.Ok new = SettlesRun old step spent code.Ok new
SettlesStep old (Some step) spent code.Done new = SettlesRun old step spent code.Done new
SettlesStep old (Some step) spent code.Parked new = SettlesRun old step spent code.Parked new
SettlesStep old step spent told new = ⊥
