use Rattle.core_queues.proofs.Words.{arith, lt-ltb, ltb-true}
use Rattle.core_queues.proofs.Views.{IsWithinLimits-view, held_count-view}
use Rattle.core_queues.proofs.queues.Queues.has_room.Goals as goal

pub returns-clause-value : goal.returns-clause-value
returns-clause-value g c =
    let counted = held_count-view c.self.invariant.0 in
    rw (← c.self.view_is)
    (λ t. omega (arith, ltb-true c.len.result c.self.inside.room t, counted, c.len.ensures), λ h. lt-ltb c.len.result c.self.inside.room (omega (arith, counted, c.len.ensures)))

pub returns-clause-limits : goal.returns-clause-limits
returns-clause-limits g c = rw (← c.self.view_is) (IsWithinLimits-view c.self.invariant.0)
