use Rattle.model_laws.proofs.DeterminedOpenings.{fresh_once}
use Rattle.model_laws.proofs.opening_is_determined.Goals as goal

pub returns : goal.returns
returns g c = fresh_once
