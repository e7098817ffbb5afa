use Rattle.core_core.proofs.Names.{arith, core_view, job_out, queues_alone, refl, sym, true≢false, [], ◌∙◌, ◌≡◌}
use Rattle.core_core.proofs.Fits.{IsBounded-from_turns}
use Rattle.core_core.proofs.Held.{held_none, free_if_not_held, busy_if_held}
use Rattle.core_core.proofs.Picking.{idle_if_no_key, work_if_key}
use Rattle.core_core.proofs.one_core.Core.pick.Goals as goal

pub returns-then-is_busy-clause-picks : goal.returns-then-is_busy-clause-picks
returns-then-is_busy-clause-picks g c =
    rw (← c.self.view_is) (busy_if_held (job_out c.self.inside.out) c.self.inside.bursts.open (sym c.is_busy.ensures ∙ c.if-is_busy.true), refl, c.new.ensures)

pub returns-then-is_empty-clause-picks : goal.returns-then-is_empty-clause-picks
returns-then-is_empty-clause-picks g c =
    let inside = c.self.inside in
    let view = core_view inside.core inside.cores (queues_alone inside.queues) inside.tallies.items inside.floor inside.turns (job_out inside.out) inside.senders inside.mode inside.bursts in
    let free = free_if_not_held (job_out inside.out) inside.bursts.open (sym c.is_busy.ensures ∙ c.if-is_busy.false) in
    let held = held_none view free.0 free.1 in
    let none : inside.ready.keys ≡ [] = c.is_empty.ensures.0 c.if-is_empty.true in
    rw (← c.self.view_is) (free.0, free.1, idle_if_no_key view inside.ready.keys none held c.self.invariant.listed, refl, c.new-then-is_empty.ensures)

pub returns-then-self-clause-picks : goal.returns-then-self-clause-picks
returns-then-self-clause-picks g c =
    let inside = c.self.inside in
    let view = core_view inside.core inside.cores (queues_alone inside.queues) inside.tallies.items inside.floor inside.turns (job_out inside.out) inside.senders inside.mode inside.bursts in
    let free = free_if_not_held (job_out inside.out) inside.bursts.open (sym c.is_busy.ensures ∙ c.if-is_busy.false) in
    let held = held_none view free.0 free.1 in
    let some : inside.ready.keys ≡ [] → ⊥ = λ none. true≢false (sym (c.is_empty.ensures.1 none) ∙ c.if-is_empty.false) in
    rw (← c.self.view_is) (free.0, free.1, c.if-self.true, work_if_key view inside.ready.keys some held c.self.invariant.listed, refl, c.new-then-self.ensures)

pub returns-then-is_busy-clause-ready : goal.returns-then-is_busy-clause-ready
returns-then-is_busy-clause-ready g c = tt

pub returns-then-is_busy-clause-bounded : goal.returns-then-is_busy-clause-bounded
returns-then-is_busy-clause-bounded g c =
    let inside = c.self.inside in
    let view = core_view inside.core inside.cores (queues_alone inside.queues) inside.tallies.items inside.floor inside.turns (job_out inside.out) inside.senders inside.mode inside.bursts in
    rw (← c.self.view_is) (IsBounded-from_turns view c.self.invariant.turns)

pub returns-then-is_empty-clause-ready : goal.returns-then-is_empty-clause-ready
returns-then-is_empty-clause-ready g c = tt

pub returns-then-is_empty-clause-bounded : goal.returns-then-is_empty-clause-bounded
returns-then-is_empty-clause-bounded g c =
    let inside = c.self.inside in
    let view = core_view inside.core inside.cores (queues_alone inside.queues) inside.tallies.items inside.floor inside.turns (job_out inside.out) inside.senders inside.mode inside.bursts in
    rw (← c.self.view_is) (IsBounded-from_turns view c.self.invariant.turns)

pub returns-then-self-clause-ready : goal.returns-then-self-clause-ready
returns-then-self-clause-ready g c = tt

pub returns-then-self-clause-bounded : goal.returns-then-self-clause-bounded
returns-then-self-clause-bounded g c =
    let inside = c.self.inside in
    let view = core_view inside.core inside.cores (queues_alone inside.queues) inside.tallies.items inside.floor inside.turns (job_out inside.out) inside.senders inside.mode inside.bursts in
    rw (← c.self.view_is) (IsBounded-from_turns view c.self.invariant.turns)

pub pick_first-turn-requires : goal.pick_first-turn-requires
pick_first-turn-requires g c =
    let inside = c.self.inside in
    let view = core_view inside.core inside.cores (queues_alone inside.queues) inside.tallies.items inside.floor inside.turns (job_out inside.out) inside.senders inside.mode inside.bursts in
    let free = free_if_not_held (job_out inside.out) inside.bursts.open (sym c.is_busy.ensures ∙ c.if-is_busy.false) in
    let held = held_none view free.0 free.1 in
    let some : inside.ready.keys ≡ [] → ⊥ = λ none. true≢false (sym (c.is_empty.ensures.1 none) ∙ c.if-is_empty.false) in
    (assumption, rw (← c.self.view_is) (free.0, (free.1, (omega (arith, c.self.ranges), work_if_key view inside.ready.keys some held c.self.invariant.listed))))

pub returns-clause-picks : goal.returns-clause-picks
returns-clause-picks g c = c.pick_first-turn.ensures.picks

pub returns-clause-ready : goal.returns-clause-ready
returns-clause-ready g c = c.pick_first-turn.ensures.ready

pub returns-clause-bounded : goal.returns-clause-bounded
returns-clause-bounded g c = c.pick_first-turn.ensures.bounded

pub new-requires : goal.new-requires
new-requires g c = assumption

pub new-requires-then-is_empty : goal.new-requires-then-is_empty
new-requires-then-is_empty g c = assumption

pub new-requires-then-self : goal.new-requires-then-self
new-requires-then-self g c = assumption

pub same-self : goal.same-self
same-self g c = refl

pub same-self-2 : goal.same-self-2
same-self-2 g c = refl
