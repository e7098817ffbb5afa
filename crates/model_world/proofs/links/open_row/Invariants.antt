use Rattle.model_world.proofs.LinkWords.{◌≤◌, vec_capacity, IsFreshRow}
use Rattle.model_world.proofs.links.open_row.Given as goal

abbrev pub invariant-loop-core : goal.invariant-loop-core
invariant-loop-core g l = (l.cores ≤ vec_capacity l.row) × IsFreshRow l.from l.core l.cap l.row.items
