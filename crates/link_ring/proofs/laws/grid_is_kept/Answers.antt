use Rattle.link_ring.proofs.Keeping.{grid_kept}
use Rattle.link_ring.proofs.laws.grid_is_kept.Goals as goal

pub returns : goal.returns
returns g c = grid_kept
