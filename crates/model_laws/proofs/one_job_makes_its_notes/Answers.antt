use Rattle.model_laws.proofs.WorkedRows.{one_job}
use Rattle.model_laws.proofs.one_job_makes_its_notes.Goals as goal

pub returns : goal.returns
returns c = one_job
