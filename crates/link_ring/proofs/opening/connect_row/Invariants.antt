use Rattle.link_ring.specs.Grid.{IsOpening}
use Rattle.link_ring.proofs.opening.connect_row.Given as goal

abbrev pub invariant-loop-core : goal.invariant-loop-core
invariant-loop-core g l = IsOpening l.cores l.cap l.sender l.core l.all.items
