-- What is known of a poll that asks its post once.
use Rattle.std.specs.Prelude.{◌≡◌, ℕ, Option, None, refl, Result, List, [], ◌∷◌}
use Rattle.std.proofs.Common.{◌∙◌}
use Rattle.base_words.specs.declared.names.JobId.{JobId}
use Rattle.base_words.specs.declared.names.TicketError.{TicketError}
use Rattle.base_words.specs.declared.order.Outcome.{Outcome}
use Rattle.base_jobs.specs.declared.job.Step.{Step}
use Rattle.base_jobs.specs.Calls.{Call, Doing, Makes}
use Rattle.base_jobs.specs.Calls.Call.{Submit, Redeem, Detach}
use Rattle.base_jobs.specs.Steps.{OwesAt}
use Rattle.host_core.specs.Jobs.{heard, AsksOnce, host_meaning}
use Rattle.host_core.specs.Words.{SaysOnce}
use Rattle.host_core.specs.declared.job.HostJob.{HostJob}
use Rattle.host_core.specs.declared.word.Word.{Word}

-- a poll that asks once, and does what it hears, owes what it shall
pub owes_once : {P : Type 0} {does : Doing P HostJob ℕ} {job : HostJob} {old new : P} {step : Step ℕ} (name : JobId) (answer : Result (Outcome HostJob ℕ) TicketError)
    → does old (Redeem name answer) new → step ≡ heard answer → OwesAt host_meaning does job old new step None
owes_once {new = new} name answer asked hears =
    record { calls = Redeem name answer ∷ []; owed = (hears, refl); makes = (new, asked, refl) }

by_calls : {old : Word} {step : Step ℕ} {told : Option ℕ} (new : Word) (calls : List (Call HostJob ℕ))
    → AsksOnce calls step × (told ≡ None) → Makes SaysOnce calls old new → old.asked ≡ None → (step ≡ old.step) × (told ≡ None)
by_calls new [] owed makes first = absurd owed.0
by_calls new (Submit to order answer ∷ later) owed makes first = absurd owed.0
by_calls new (Detach name answer ∷ later) owed makes first = absurd owed.0
by_calls new (Redeem name answer ∷ []) owed makes first = (owed.0 ∙ makes.1 first, owed.1)
by_calls new (Redeem name answer ∷ call ∷ later) owed makes first = absurd owed.0

-- a poll at the host's word comes to the step that the host told
pub told_step : {job : HostJob} {old new : Word} {step : Step ℕ} {told : Option ℕ}
    → OwesAt host_meaning SaysOnce job old new step told → old.asked ≡ None → (step ≡ old.step) × (told ≡ None)
told_step {new = new} owes first = by_calls new owes.calls owes.owed owes.makes first
