-- What an actor does with its tickets, and what the host is told of it.
use Rattle.std.specs.Prelude.{◌≡◌, ◌⊎◌, ℕ, Some, None, Result}
use Rattle.base_words.specs.declared.names.JobId.{JobId}
use Rattle.base_words.specs.declared.order.Outcome.{Outcome}
use Rattle.host_core.specs.declared.answers.Refusal.{Refusal}
use Rattle.host_core.specs.declared.job.HostJob.{HostJob}
use Rattle.host_core.specs.Submissions as core
use Rattle.host_house.specs.Outside as outside
use Rattle.host_calls.specs.declared.code.Code.{Code}
use Rattle.host_calls.specs.declared.code.Code.TheVariants as code
use Rattle.host_calls.specs.declared.member.Member.{Member}
use Rattle.host_calls.specs.declared.member.Member.TheVariants as member
use Rattle.host_calls.specs.declared.names.Name.{Name}
use Rattle.host_calls.specs.declared.outcomes.OutcomeTold.{OutcomeTold}
use Rattle.host_calls.specs.Codes.{Tells}
use Rattle.host_calls.specs.Links.{code_of_shut}
use Rattle.host_calls.specs.Members.{IsActor}
use Rattle.host_calls.specs.Names.{IsTicketOf}
use Rattle.host_calls.specs.Outcomes.{code_of_outcome, outcome_told}
use Rattle.host_calls.specs.Submissions.{OnActor}

-- an actor redeems a ticket
abbrev pub RedeemsOn : Member → JobId → Result (Outcome HostJob ℕ) Refusal → Member → Type 0
RedeemsOn (member.Core old) name answer (member.Core new) = core.Redeems name old answer new
RedeemsOn (member.Outside old) name answer (member.Outside new) = outside.Redeems name old answer new
RedeemsOn old name answer new = (IsActor old → ⊥) × (new ≡ old)

-- a name that no submission can have is told, and nothing changes
abbrev pub OnTicket : Name → Type 0 → Code → (JobId → Type 0) → Type 0
OnTicket name same told does = (IsTicketOf name None × (told ≡ code.Unknown) × same) ⊎ ((ticket : JobId) × IsTicketOf name (Some ticket) × does ticket)

-- an outcome is redeemed and told; a struct of another size comes first
abbrev pub RedeemsTold : Member → Name → OutcomeTold → Code → OutcomeTold → Member → Type 0
RedeemsTold old name before told after new =
    OnActor old (after ≡ before) told new
    (((before.size ≡ 32 → ⊥) × (told ≡ code.BadNumber) × (after ≡ before) × (new ≡ old))
    ⊎ ((before.size ≡ 32) × OnTicket name ((after ≡ before) × (new ≡ old)) told
    (λ ticket. Tells (λ answer. RedeemsOn old ticket answer new × (after ≡ outcome_told answer before)) code_of_outcome told)))

-- an actor detaches a ticket
abbrev pub DetachesOn : Member → JobId → Result (Unit {0}) Refusal → Member → Type 0
DetachesOn (member.Core old) name answer (member.Core new) = core.Detaches name old answer new
DetachesOn (member.Outside old) name answer (member.Outside new) = outside.Detaches name old answer new
DetachesOn old name answer new = (IsActor old → ⊥) × (new ≡ old)

-- a submission is detached and told
abbrev pub DetachesTold : Member → Name → Code → Member → Type 0
DetachesTold old name told new =
    OnActor old (Unit {0}) told new (OnTicket name (new ≡ old) told (λ ticket. Tells (λ answer. DetachesOn old ticket answer new) code_of_shut told))
