use Rattle.run_worker.proofs.Creating.{IsCreating}
use Rattle.run_worker.proofs.opening.create_all.Given as goal

abbrev pub invariant-loop-index : goal.invariant-loop-index
invariant-loop-index g l = IsCreating g.J.Task.meaning l.core l.queues l.index l.fn.recorded l.recorded
