use Rattle.model_laws.proofs.WorkedRows.{two_senders}
use Rattle.model_laws.proofs.two_senders_in_their_order.Goals as goal

pub returns : goal.returns
returns c = two_senders
