use Rattle.model_laws.proofs.DeterminedRuns.{run_once, assembly_once}
use Rattle.model_laws.proofs.run_is_determined.Goals as goal

pub returns-clause-run : goal.returns-clause-run
returns-clause-run g c = run_once g.J.Task.meaning

pub returns-clause-assembly : goal.returns-clause-assembly
returns-clause-assembly g c = assembly_once g.J.Task.meaning
