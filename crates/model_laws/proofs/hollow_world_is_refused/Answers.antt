use Rattle.model_laws.proofs.Words.{ℕ}
use Rattle.model_laws.proofs.Hollow.{hollow_refused}
use Rattle.model_laws.proofs.hollow_world_is_refused.Goals as goal

pub returns : goal.returns
returns g c = hollow_refused g.row.J.Denot ℕ
