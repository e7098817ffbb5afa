use Rattle.link_ring.specs.Grid.{IsOpening}
use Rattle.link_ring.proofs.opening.open_rows.Given as goal

abbrev pub invariant-loop-sender : goal.invariant-loop-sender
invariant-loop-sender g l = IsOpening l.cores l.cap l.sender 0 l.all.items
