use Rattle.actor_core.proofs.Kept.{stays-agrees}
use Rattle.actor_core.proofs.laws.stays_as_told.Goals as goal

pub returns : goal.returns
returns g c terms core journal job kept at = stays-agrees core journal kept.agrees job at
