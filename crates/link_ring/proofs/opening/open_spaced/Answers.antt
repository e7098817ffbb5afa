use Rattle.link_ring.proofs.Keeping.{grid_opened}
use Rattle.link_ring.proofs.opening.open_spaced.Goals as goal

pub returns-in-Ok-clause-grid : goal.returns-in-Ok-clause-grid
returns-in-Ok-clause-grid g c = grid_opened c.args.cores c.args.cap c.in-Ok.all.items c.in-Ok.ensures
