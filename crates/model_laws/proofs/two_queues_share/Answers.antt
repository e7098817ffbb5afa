use Rattle.model_laws.proofs.WorkedRows.{two_queues}
use Rattle.model_laws.proofs.two_queues_share.Goals as goal

pub returns : goal.returns
returns c = two_queues
