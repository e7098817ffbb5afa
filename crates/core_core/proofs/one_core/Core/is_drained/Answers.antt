use Rattle.core_core.proofs.Names.{core_view, eq-eqb, eqb-true, job_out, queues_alone}
use Rattle.core_core.proofs.Closings.{drained_if, none_if_drained}
use Rattle.core_core.proofs.one_core.Core.is_drained.Goals as goal

pub returns-then-are_through : goal.returns-then-are_through
returns-then-are_through g c =
    let inside = c.self.inside in
    let counted = c.self.invariant.counted in
    let view = core_view inside.core inside.cores (queues_alone inside.queues) inside.tallies.items inside.floor inside.turns (job_out inside.out) inside.senders inside.mode inside.bursts in
    rw (← c.self.view_is) (
      λ none. drained_if view inside.inside inside.room inside.tallies.cap counted (c.are_through.ensures.0 c.if-are_through.true) (eqb-true inside.inside 0 none),
      λ drained. eq-eqb inside.inside 0 (none_if_drained view inside.inside inside.room inside.tallies.cap counted drained),
    )
