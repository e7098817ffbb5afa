use Rattle.run_worker.proofs.Telling.{steps_none}
use Rattle.run_worker.proofs.served.Served.close_gates.Goals as goal

pub returns-then-not-closed-clause-steps : goal.returns-then-not-closed-clause-steps
returns-then-not-closed-clause-steps g c = steps_none _ c.args.self.now
