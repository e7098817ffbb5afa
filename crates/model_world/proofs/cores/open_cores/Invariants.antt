use Rattle.model_world.proofs.LinkWords.{◌≤◌, vec_capacity}
use Rattle.model_world.proofs.Opening.{AreFirstOpened}
use Rattle.model_world.proofs.cores.open_cores.Given as goal

abbrev pub invariant-loop-core : goal.invariant-loop-core
invariant-loop-core g l = (l.cores ≤ vec_capacity l.inside) × AreFirstOpened l.core l.cores l.cap l.room l.burst l.inside.items
