use Rattle.model_laws.proofs.NoRefusals.{jobs_once}
use Rattle.model_laws.proofs.run_of_jobs_is_determined.Goals as goal

pub returns : goal.returns
returns g c = jobs_once g.J.Task.meaning
