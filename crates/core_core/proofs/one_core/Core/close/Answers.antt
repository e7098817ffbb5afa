use Rattle.core_core.proofs.Names.{core_view, job_out, queues_alone, refl, Some, sym, ◌∙◌}
use Rattle.core_core.proofs.Closings.{IsCore-closed}
use Rattle.core_core.proofs.Fits.{IsBounded-from_turns}
use Rattle.core_core.proofs.one_core.Core.close.Goals as goal

pub returns-then-not-closes-clause-closes : goal.returns-then-not-closes-clause-closes
returns-then-not-closes-clause-closes g c = rw (← c.self.view_is) (sym c.closes.ensures ∙ c.if-not-closes.true, refl, c.new.ensures)

pub returns-then-not-closes-clause-bounded : goal.returns-then-not-closes-clause-bounded
returns-then-not-closes-clause-bounded g c =
    let inside = c.self.inside in
    rw (← c.self.view_is) (IsBounded-from_turns (core_view inside.core inside.cores (queues_alone inside.queues) inside.tallies.items inside.floor inside.turns (job_out inside.out) inside.senders inside.mode inside.bursts) c.self.invariant.turns)

pub invariant_of-self : goal.invariant_of-self
invariant_of-self g c =
    let inside = c.self.inside in
    let old = core_view inside.core inside.cores (queues_alone inside.queues) inside.tallies.items inside.floor inside.turns (job_out inside.out) inside.senders inside.mode inside.bursts in
    IsCore-closed _ old inside.senders.gates (Some c.args.mode) _ _ _ _ _ c.self.invariant

pub returns-clause-closes : goal.returns-clause-closes
returns-clause-closes g c = rw (← c.self.view_is) (sym c.closes.ensures ∙ c.if-not-closes.false, c.end_parks_for.ensures.ends, c.one_note.ensures)

pub returns-clause-bounded : goal.returns-clause-bounded
returns-clause-bounded g c = c.end_parks_for.ensures.bounded

pub new-requires : goal.new-requires
new-requires g c = assumption

pub one_note-requires : goal.one_note-requires
one_note-requires g c = assumption
