use Rattle.run_runtime.proofs.Outcomes.{submitted_told}
use Rattle.run_runtime.proofs.laws.submitted_orders_are_told.Goals as goal

pub returns : goal.returns
returns g c = submitted_told g.J.Task.meaning
