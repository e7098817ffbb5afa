-- What the host is told of turns.
use Rattle.std.specs.Prelude.{◌≡◌, ◌⊎◌, ◌==◌, if◌then◌else◌, ℕ, Option, Some, None, Result, Ok, Err}
use Rattle.base_words.specs.declared.order.Reason.{Reason}
use Rattle.base_words.specs.declared.order.Reason.TheVariants as why
use Rattle.base_jobs.specs.declared.job.Step.{Step}
use Rattle.base_jobs.specs.declared.job.Step.TheVariants.{Done, Yield, Park}
use Rattle.core_core.specs.declared.turn.Settled.{Settled}
use Rattle.core_core.specs.declared.turn.Settled.TheVariants.{Yielded, Parked, Stayed, Finished}
use Rattle.host_core.specs.declared.answers.Picked.{Picked}
use Rattle.host_core.specs.declared.answers.Picked.TheVariants as picked
use Rattle.host_core.specs.declared.answers.Refusal.{Refusal}
use Rattle.host_core.specs.Hosted.{HostedView}
use Rattle.host_core.specs.Turns.{Nexts, SettlesStep}
use Rattle.host_calls.specs.declared.code.Code.{Code}
use Rattle.host_calls.specs.declared.code.Code.TheVariants as code
use Rattle.host_calls.specs.declared.turns.TurnTold.{TurnTold}
use Rattle.host_calls.specs.Codes.{Tells, code_of_refusal}
use Rattle.host_calls.specs.Names.{name_told}

-- the number of a reason
abbrev pub reason_number : Reason → ℕ
reason_number why.NoQueue = 0
reason_number why.QueueClosed = 1
reason_number why.CoreClosing = 2
reason_number why.QueueReturned = 3
reason_number why.CoreReturned = 4

-- the code of a turn
abbrev pub code_of_picked : Result Picked Refusal → Code
code_of_picked (Ok (picked.Start name queue job)) = code.Start
code_of_picked (Ok (picked.Resume name queue job)) = code.Resume
code_of_picked (Ok (picked.Back name reason)) = code.Back
code_of_picked (Ok picked.Idle) = code.Idle
code_of_picked (Err refusal) = code_of_refusal refusal

-- what the host is told of a turn: the job that it is to run, or that which went back; else what stood there stays
abbrev pub turn_told : Result Picked Refusal → TurnTold → TurnTold
turn_told (Ok (picked.Start name queue job)) before = record { size = 40; queue = queue; name = name_told name; job = job; reason = 0; zero = 0 }
turn_told (Ok (picked.Resume name queue job)) before = record { size = 40; queue = queue; name = name_told name; job = job; reason = 0; zero = 0 }
turn_told (Ok (picked.Back name reason)) before = record { size = 40; queue = 0; name = name_told name; job = 0; reason = reason_number reason; zero = 0 }
turn_told (Ok picked.Idle) before = before
turn_told (Err refusal) before = before

-- a turn is made and told; a struct of another size comes first
abbrev pub NextsTold : HostedView → TurnTold → Code → TurnTold → HostedView → Type 0
NextsTold old before told after new =
    ((before.size ≡ 40 → ⊥) × (told ≡ code.BadNumber) × (after ≡ before) × (new ≡ old))
    ⊎ ((before.size ≡ 40) × Tells (λ answer. Nexts old answer new × (after ≡ turn_told answer before)) code_of_picked told)

-- the step of a number, if it is one, with the answer of a job that is done
abbrev pub step_of : ℕ → ℕ → Option (Step ℕ)
step_of number answer = if number == 0 then Some Yield else if number == 1 then Some (Done answer) else if number == 2 then Some Park else None

-- the code of a settled run; one that asks to be parked and stays in its queue is told as one that yields
abbrev pub code_of_settled : Result (Settled ℕ) Refusal → Code
code_of_settled (Ok Yielded) = code.Ok
code_of_settled (Ok Parked) = code.Parked
code_of_settled (Ok Stayed) = code.Ok
code_of_settled (Ok (Finished answer)) = code.Done
code_of_settled (Err refusal) = code_of_refusal refusal

-- a run is settled and told; a number that is no step comes first
abbrev pub SettlesTold : HostedView → Option (Step ℕ) → ℕ → Code → HostedView → Type 0
SettlesTold old None spent told new = (told ≡ code.BadNumber) × (new ≡ old)
SettlesTold old (Some step) spent told new = Tells (λ answer. SettlesStep old step spent answer new) code_of_settled told

-- the code says that a run was settled
abbrev pub IsSettled : Code → Type 0
IsSettled code.Ok = Unit {0}
IsSettled code.Done = Unit {0}
IsSettled code.Parked = Unit {0}
IsSettled other = ⊥

-- a run is settled, and the next turn is made behind that; if the run isn't settled, that is told, and no turn is made
abbrev pub StepsOn : HostedView → Option (Step ℕ) → ℕ → TurnTold → Code → TurnTold → HostedView → Type 0
StepsOn old step spent before told after new =
    ((IsSettled told → ⊥) × SettlesTold old step spent told new × (after ≡ before))
    ⊎ ((settled : Code) × (middle : HostedView) × IsSettled settled × SettlesTold old step spent settled middle × NextsTold middle before told after new)

-- the same; a struct of another size comes first
abbrev pub StepsTold : HostedView → Option (Step ℕ) → ℕ → TurnTold → Code → TurnTold → HostedView → Type 0
StepsTold old step spent before told after new =
    ((before.size ≡ 40 → ⊥) × (told ≡ code.BadNumber) × (after ≡ before) × (new ≡ old)) ⊎ ((before.size ≡ 40) × StepsOn old step spent before told after new)
