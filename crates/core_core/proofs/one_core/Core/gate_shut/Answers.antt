use Rattle.core_core.proofs.Names.{ap, arith, core_view, CoreView, job_out, queues_alone, slice_set, Some, subst, sym, ◌∙◌, ◌≤◌}
use Rattle.core_core.proofs.Closings.{IsCore-closed}
use Rattle.core_core.proofs.Fits.{IsBounded-from_turns}
use Rattle.core_core.proofs.one_core.Core.gate_shut.Goals as goal

pub invariant_of-self : goal.invariant_of-self
invariant_of-self g c =
    let inside = c.self.inside in
    let old = core_view inside.core inside.cores (queues_alone inside.queues) inside.tallies.items inside.floor inside.turns (job_out inside.out) inside.senders inside.mode inside.bursts in
    rw c.shut.ensures (IsCore-closed _ old _ inside.mode _ _ _ _ _ c.self.invariant)

pub returns-clause-bounded : goal.returns-clause-bounded
returns-clause-bounded g c =
    let inside = c.self.inside in
    let old = core_view inside.core inside.cores (queues_alone inside.queues) inside.tallies.items inside.floor inside.turns (job_out inside.out) inside.senders inside.mode inside.bursts in
    IsBounded-from_turns old c.self.invariant.turns

pub shut-requires : goal.shut-requires
shut-requires g c =
    let known : c.args.from ≤ c.self.inside.cores = subst (λ (view : CoreView g.row.J.Denot). c.args.from ≤ view.cores) (sym c.self.view_is) c.requires.sender in
    omega (arith, known, c.self.invariant.counted.senders)

pub returns-clause-shuts : goal.returns-clause-shuts
returns-clause-shuts g c =
    let inside = c.self.inside in
    let shut = c.shut.ensures ∙ ap (λ from. record inside.senders { gates = slice_set inside.senders.gates from (Some c.args.count) }) (c.from-2.ensures ∙ c.from.view_is) in
    rw (← c.self.view_is) (λ i. core_view inside.core inside.cores (queues_alone inside.queues) inside.tallies.items inside.floor inside.turns (job_out inside.out) (shut i) inside.mode inside.bursts, c.one_note.ensures)

pub one_note-requires : goal.one_note-requires
one_note-requires g c = assumption
