use Rattle.run_worker.proofs.Names.{ServesOn}
use Rattle.run_worker.proofs.worker.WorkerWork.run.Given as goal

abbrev pub invariant-loop : goal.invariant-loop
invariant-loop g l = (goal.iterator-loop g).can_next l.iterator' × (goal.iterator-loop g).is_finite l.iterator' × ServesOn g.J.Task.meaning g.J.Task.sleeps g.C.Clock.Reads g.G.Gate.Asked g.S.Sink l.fn.self l.worker
