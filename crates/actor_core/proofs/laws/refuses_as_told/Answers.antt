use Rattle.actor_core.proofs.Kept.{refusal-agrees}
use Rattle.actor_core.proofs.laws.refuses_as_told.Goals as goal

pub returns : goal.returns
returns g c terms core journal kept queue = refusal-agrees core journal kept.agrees.closing kept.agrees.last queue
