-- What the host is told of orders that are delivered, of gates, and of the end of a core.
use Rattle.std.specs.Prelude.{◌≡◌, ◌⊎◌, ℕ, ◌<◌, ◌≤◌, Bool, true, false, Option, Some, None, Result, Ok, Err}
use Rattle.base_words.specs.Closing.{IsDrained}
use Rattle.base_words.specs.declared.order.Mode.{Mode}
use Rattle.host_core.specs.declared.answers.Refusal.{Refusal}
use Rattle.host_core.specs.Hosted.{HostedView, IsAtRest}
use Rattle.host_core.specs.Links.{Closes, Hears, Shuts}
use Rattle.host_calls.specs.declared.code.Code.{Code}
use Rattle.host_calls.specs.declared.code.Code.TheVariants as code
use Rattle.host_calls.specs.Codes.{Tells, code_of_refusal}

-- the code of a delivery
abbrev pub code_of_found : Result Bool Refusal → Code
code_of_found (Ok true) = code.Ok
code_of_found (Ok false) = code.Idle
code_of_found (Err refusal) = code_of_refusal refusal

-- the next order of a sender is delivered; a number that no actor can have comes first
abbrev pub DeliversTold : ℕ → HostedView → Code → HostedView → Type 0
DeliversTold sender old told new =
    ((256 ≤ sender) × (told ≡ code.NoActor) × (new ≡ old)) ⊎ ((sender < 256) × Tells (λ answer. Hears sender old answer new) code_of_found told)

-- the code of a call that answers nothing else
abbrev pub code_of_shut : Result (Unit {0}) Refusal → Code
code_of_shut (Ok done) = code.Ok
code_of_shut (Err refusal) = code_of_refusal refusal

-- the gate of a sender is shut, by the same rule
abbrev pub ShutsTold : ℕ → HostedView → Code → HostedView → Type 0
ShutsTold sender old told new =
    ((256 ≤ sender) × (told ≡ code.NoActor) × (new ≡ old)) ⊎ ((sender < 256) × Tells (λ answer. Shuts sender old answer new) code_of_shut told)

-- the code of a closing; one that changes nothing is told as closed before
abbrev pub code_of_closed : Result Bool Refusal → Code
code_of_closed (Ok true) = code.Ok
code_of_closed (Ok false) = code.CoreClosed
code_of_closed (Err refusal) = code_of_refusal refusal

-- the core closes by itself; a number that is no mode comes first
abbrev pub ClosesTold : Option Mode → HostedView → Code → HostedView → Type 0
ClosesTold None old told new = (told ≡ code.BadNumber) × (new ≡ old)
ClosesTold (Some mode) old told new = Tells (λ answer. Closes mode old answer new) code_of_closed told

-- the core has come to its end
abbrev pub HasEnded : HostedView → Type 0
HasEnded view = IsAtRest view.recorded × IsDrained view.recorded.core.cores view.recorded.journal.notes

-- the code tells whether it has
abbrev pub IsTold : HostedView → Code → Type 0
IsTold view code.Ok = HasEnded view
IsTold view code.NotDrained = HasEnded view → ⊥
IsTold view other = ⊥
