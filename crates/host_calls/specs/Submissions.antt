-- What an actor does with its submissions, and what the host is told of it.
use Rattle.std.specs.Prelude.{◌≡◌, ◌⊎◌, ℕ, ◌<◌, ◌≤◌, Result, Ok, Err}
use Rattle.base_words.specs.declared.names.JobId.{JobId}
use Rattle.base_words.specs.declared.order.Order.{Order}
use Rattle.host_core.specs.declared.answers.Refusal.{Refusal}
use Rattle.host_core.specs.Links as core_links
use Rattle.host_core.specs.Submissions as core
use Rattle.host_house.specs.Outside as outside
use Rattle.host_calls.specs.declared.code.Code.{Code}
use Rattle.host_calls.specs.declared.code.Code.TheVariants as code
use Rattle.host_calls.specs.declared.member.Member.{Member}
use Rattle.host_calls.specs.declared.member.Member.TheVariants as member
use Rattle.host_calls.specs.declared.names.Name.{Name}
use Rattle.host_calls.specs.Codes.{Tells, code_of_refusal}
use Rattle.host_calls.specs.Members.{IsActor}
use Rattle.host_calls.specs.Names.{name_told}

-- a call for an actor; any other member is told that it is none, and stays, and so does what the call writes to
abbrev pub OnActor : Member → Type 0 → Code → Member → Type 0 → Type 0
OnActor old same told new does = ((IsActor old → ⊥) × (told ≡ code.Empty) × same × (new ≡ old)) ⊎ (IsActor old × does)

-- a number that no core can have is told, and nothing changes
abbrev pub OnNumber : ℕ → Code → Type 0 → Code → Type 0 → Type 0
OnNumber number refused same told does = ((256 ≤ number) × (told ≡ refused) × same) ⊎ ((number < 256) × does)

-- an actor submits an order
abbrev pub PostsOn : Member → ℕ → Order ℕ → Result JobId Refusal → Member → Type 0
PostsOn (member.Core old) to order answer (member.Core new) = core.Posts to (core.order_of_host order) old answer new
PostsOn (member.Outside old) to order answer (member.Outside new) = outside.Posts to (core.order_of_host order) old answer new
PostsOn old to order answer new = (IsActor old → ⊥) × (new ≡ old)

-- the code of a submission
abbrev pub code_of_sent : Result JobId Refusal → Code
code_of_sent (Ok name) = code.Ok
code_of_sent (Err refusal) = code_of_refusal refusal

-- its name; else what stood there stays
abbrev pub name_after : Result JobId Refusal → Name → Name
name_after (Ok name) before = name_told name
name_after (Err refusal) before = before

-- an order is submitted and told; one that couldn't be made comes first, then a number that no core can have
abbrev pub SendsOrder : Member → ℕ → Result (Order ℕ) Code → Name → Code → Name → Member → Type 0
SendsOrder old to (Err refused) before told after new = (told ≡ refused) × (after ≡ before) × (new ≡ old)
SendsOrder old to (Ok order) before told after new =
    OnNumber to code.UnknownCore ((after ≡ before) × (new ≡ old)) told
    (Tells (λ answer. PostsOn old to order answer new × (after ≡ name_after answer before)) code_of_sent told)

abbrev pub SendsTold : Member → ℕ → Result (Order ℕ) Code → Name → Code → Name → Member → Type 0
SendsTold old to order before told after new = OnActor old (after ≡ before) told new (SendsOrder old to order before told after new)

-- an actor collects all outcomes that the link to a core shows
abbrev pub CollectsOn : Member → ℕ → Result ℕ Refusal → Member → Type 0
CollectsOn (member.Core old) from answer (member.Core new) = core_links.Collects from old answer new
CollectsOn (member.Outside old) from answer (member.Outside new) = outside.Collects from old answer new
CollectsOn old from answer new = (IsActor old → ⊥) × (new ≡ old)

-- the code of a collection
abbrev pub code_of_count : Result ℕ Refusal → Code
code_of_count (Ok count) = code.Ok
code_of_count (Err refusal) = code_of_refusal refusal

-- how many there were; else what stood there stays
abbrev pub count_told : Result ℕ Refusal → ℕ → ℕ
count_told (Ok count) before = count
count_told (Err refusal) before = before

-- outcomes are collected and told
abbrev pub CollectsTold : Member → ℕ → ℕ → Code → ℕ → Member → Type 0
CollectsTold old from before told after new =
    OnActor old (after ≡ before) told new
    (OnNumber from code.UnknownCore ((after ≡ before) × (new ≡ old)) told
    (Tells (λ answer. CollectsOn old from answer new × (after ≡ count_told answer before)) code_of_count told))

-- a link shows something, or none does: no clause says which
abbrev pub ShowsTold : Member → Code → Member → Type 0
ShowsTold old told new = OnActor old (Unit {0}) told new (((told ≡ code.Ok) ⊎ (told ≡ code.Idle)) × (new ≡ old))
