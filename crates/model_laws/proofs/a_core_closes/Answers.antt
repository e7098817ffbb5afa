use Rattle.model_laws.proofs.WorkedRows.{core_closes}
use Rattle.model_laws.proofs.a_core_closes.Goals as goal

pub returns : goal.returns
returns c = core_closes
