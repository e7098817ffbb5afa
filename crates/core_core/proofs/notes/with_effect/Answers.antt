use Rattle.core_core.proofs.Names.{arith}
use Rattle.core_core.proofs.notes.with_effect.Goals as goal

pub insert-requires : goal.insert-requires
insert-requires g c = (assumption, omega (arith, c.requires))

pub returns : goal.returns
returns g c = c.insert.ensures.items
