-- What no call may tell of submissions, tickets and counts, each refused by the definition that judges it.
use Rattle.std.proofs.Common.{arith, ap, inl, inr, refl}
use Rattle.std.specs.Prelude.{◌≡◌, ℕ, Some, None, Ok, Err}
use Rattle.base_words.specs.declared.order.Mode.TheVariants.{Finish}
use Rattle.base_words.specs.declared.order.Order.{Order}
use Rattle.base_words.specs.declared.order.Outcome.TheVariants.{Finished}
use Rattle.base_words.specs.declared.stats.QueueStats.{QueueStats}
use Rattle.host_core.specs.Hosted.{HostedView}
use Rattle.host_calls.specs.declared.code.Code.TheVariants as code
use Rattle.host_calls.specs.declared.figures.QueueFigures.{QueueFigures}
use Rattle.host_calls.specs.declared.member.Member.{Member}
use Rattle.host_calls.specs.declared.member.Member.TheVariants as member
use Rattle.host_calls.specs.declared.names.Name.{Name}
use Rattle.host_calls.specs.declared.outcomes.OutcomeTold.{OutcomeTold}
use Rattle.host_calls.specs.Figures.{AreFiguresOf, closed_number}
use Rattle.host_calls.specs.Kept.{KeptView}
use Rattle.host_calls.specs.Names.{IsTicketOf}
use Rattle.host_calls.specs.Outcomes.{outcome_of}
use Rattle.host_calls.specs.Submissions.{CollectsTold, SendsOrder}
use Rattle.host_calls.specs.Tickets.{DetachesTold, RedeemsTold}

-- a name within the numbers has no ticket
pub near_name_has_none : IsTicketOf (record { number = 1; from = 255; to = 255 }) None → ⊥
near_name_has_none (inl far) = omega (arith, far)
near_name_has_none (inr far) = omega (arith, far)

-- a name stands for a ticket of another core
pub name_of_another_core : IsTicketOf (record { number = 1; from = 1; to = 0 }) (Some (record { from = 1; to = 1; number = 1 })) → ⊥
name_of_another_core is = omega (arith, ap (λ (name : Name). name.to) is)

-- an order that couldn't be made is told as sent
pub bad_order_is_sent : (old new : Member) (before after : Name) → SendsOrder old 0 (Err code.BadShares) before code.Ok after new → ⊥
bad_order_is_sent old new before after told = cc told.0

-- an order goes to a core that no number of eight bits names
pub far_core_takes_an_order : (old new : Member) (order : Order ℕ) (before after : Name) → SendsOrder old 256 (Ok order) before code.Ok after new → ⊥
far_core_takes_an_order old new order before after (inl told) = cc told.1
far_core_takes_an_order old new order before after (inr told) = omega (arith, told.0)

-- a house collects outcomes
pub house_collects : (house : KeptView) (new : Member) (before after : ℕ) → CollectsTold (member.House house) 0 before code.Ok after new → ⊥
house_collects house new before after (inl told) = cc told.1
house_collects house new before after (inr told) = told.0

-- an outcome is told by a struct that is too small
pub small_struct_is_told : (old : HostedView) (new : Member) (name : Name) (before after : OutcomeTold) → before.size ≡ 31 → RedeemsTold (member.Core old) name before code.Ok after new → ⊥
small_struct_is_told old new name before after small (inl told) = told.0 tt
small_struct_is_told old new name before after small (inr told) = elim told.1 [
  | inl other ↦ cc other.1
  | inr fits ↦ omega (arith, small, fits.0)
]

-- a house lets a submission go
pub house_lets_go : (house : KeptView) (new : Member) (name : Name) → DetachesTold (member.House house) name code.Ok new → ⊥
house_lets_go house new name (inl told) = cc told.1
house_lets_go house new name (inr told) = told.0

-- a job that is done is told as one that comes back
pub done_comes_back : outcome_of (Finished 7) ≡ record { size = 32; kind = 1; why = 0; queue = 0; answer = 7; job = 0 } → ⊥
done_comes_back is = omega (arith, ap (λ (outcome : OutcomeTold). outcome.kind) is)

-- the counts of a queue are told by a struct of another size
pub queue_is_told_small : (stats : QueueStats) (figures : QueueFigures) → figures.size ≡ 64 → AreFiguresOf stats figures → ⊥
queue_is_told_small stats figures small are = omega (arith, small, are.size)

-- a core that finishes is told as open
pub finishing_is_open : closed_number (Some Finish) ≡ 0 → ⊥
finishing_is_open is = cc is
