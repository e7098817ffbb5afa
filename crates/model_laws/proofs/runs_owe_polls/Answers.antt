use Rattle.model_laws.proofs.OwedRuns.{runs_owe}
use Rattle.model_laws.proofs.runs_owe_polls.Goals as goal

pub returns : goal.returns
returns g c = runs_owe g.J.Task.meaning
