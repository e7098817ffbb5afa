use Rattle.core_core.proofs.Names.{ap, arith, core_view, CoreView, job_out, queues_alone, sym, true≢false, [], ◌<◌, ◌^◌, ◌∙◌, ◌≡◌}
use Rattle.std.specs.Prelude.{◌-◌}
use Rattle.core_core.proofs.Held.{held_none, free_if_not_held, busy_if_held}
use Rattle.core_core.proofs.Picking.{idle_if_no_key, work_if_key}
use Rattle.core_core.proofs.one_core.Core.ahead.Goals as goal

pub returns-then-is_busy : goal.returns-then-is_busy
returns-then-is_busy g c = rw (← c.self.view_is) (busy_if_held (job_out c.self.inside.out) c.self.inside.bursts.open (sym c.is_busy.ensures ∙ c.if-is_busy.true))

pub returns-then-is_empty : goal.returns-then-is_empty
returns-then-is_empty g c =
    let inside = c.self.inside in
    let view = core_view inside.core inside.cores (queues_alone inside.queues) inside.tallies.items inside.floor inside.turns (job_out inside.out) inside.senders inside.mode inside.bursts in
    let free = free_if_not_held (job_out inside.out) inside.bursts.open (sym c.is_busy.ensures ∙ c.if-is_busy.false) in
    let held = held_none view free.0 free.1 in
    let none : inside.ready.keys ≡ [] = c.is_empty.ensures.0 c.if-is_empty.true in
    rw (← c.self.view_is) (free.0, free.1, idle_if_no_key view inside.ready.keys none held c.self.invariant.listed)

pub returns-then-turns_made-eq18446744073709551615 : goal.returns-then-turns_made-eq18446744073709551615
returns-then-turns_made-eq18446744073709551615 g c =
    let inside = c.self.inside in
    let view = core_view inside.core inside.cores (queues_alone inside.queues) inside.tallies.items inside.floor inside.turns (job_out inside.out) inside.senders inside.mode inside.bursts in
    let free = free_if_not_held (job_out inside.out) inside.bursts.open (sym c.is_busy.ensures ∙ c.if-is_busy.false) in
    let held = held_none view free.0 free.1 in
    let some : inside.ready.keys ≡ [] → ⊥ = λ none. true≢false (sym (c.is_empty.ensures.1 none) ∙ c.if-is_empty.false) in
    let made : inside.turns ≡ c.turns_made.result = ap (λ (one : CoreView g.row.J.Denot). one.turns) c.self.view_is ∙ sym c.turns_made.ensures in
    rw (← c.self.view_is) (free.0, free.1, made ∙ c.if-turns_made-eq18446744073709551615.true, work_if_key view inside.ready.keys some held c.self.invariant.listed)

pub first_ahead-requires : goal.first_ahead-requires
first_ahead-requires g c =
    let inside = c.self.inside in
    let view = core_view inside.core inside.cores (queues_alone inside.queues) inside.tallies.items inside.floor inside.turns (job_out inside.out) inside.senders inside.mode inside.bursts in
    let free = free_if_not_held (job_out inside.out) inside.bursts.open (sym c.is_busy.ensures ∙ c.if-is_busy.false) in
    let held = held_none view free.0 free.1 in
    let some : inside.ready.keys ≡ [] → ⊥ = λ none. true≢false (sym (c.is_empty.ensures.1 none) ∙ c.if-is_empty.false) in
    let made : inside.turns ≡ c.turns_made.result = ap (λ (one : CoreView g.row.J.Denot). one.turns) c.self.view_is ∙ sym c.turns_made.ensures in
    let last = c.if-turns_made-eq18446744073709551615.false in
    let fits = c.turns_made.type_inv in
    let left : inside.turns < 2 ^ 64 - 1 = omega (arith, made, last, fits) in
    rw (← c.self.view_is) (record { free = free.0; no_turn = free.1; turns = left; work = work_if_key view inside.ready.keys some held c.self.invariant.listed })

pub returns : goal.returns
returns g c = c.first_ahead.ensures
