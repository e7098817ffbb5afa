use Rattle.core_queues.proofs.Words.{arith}
use Rattle.core_queues.proofs.Views.{IsWithinLimits-view, queue_count-view}
use Rattle.core_queues.proofs.queues.Queues.queue_count.Goals as goal

pub returns-clause-value : goal.returns-clause-value
returns-clause-value g c = rw (← c.self.view_is) (omega (arith, queue_count-view c.self.inside.room c.self.inside.jobs c.self.inside.lines.items))

pub returns-clause-limits : goal.returns-clause-limits
returns-clause-limits g c = rw (← c.self.view_is) (IsWithinLimits-view c.self.invariant.0)
