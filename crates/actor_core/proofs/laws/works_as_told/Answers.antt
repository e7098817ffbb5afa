use Rattle.actor_core.proofs.Kept.{working}
use Rattle.actor_core.proofs.laws.works_as_told.Goals as goal

pub returns : goal.returns
returns g c terms core journal kept queue = working core journal terms queue kept.notes kept.agrees
