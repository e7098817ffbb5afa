use Rattle.std.proofs.Common.{refl}
use Rattle.core_timeline.proofs.tree.balance.take_sides.Goals as goal

pub fill-requires : goal.fill-requires
fill-requires g c = c.requires.0

pub fill-requires-2 : goal.fill-requires-2
fill-requires-2 g c = c.requires.1

pub returns : goal.returns
returns g c = record { left = c.fill.ensures; right = c.fill-2.ensures; queue = refl; lean = refl }
