use Rattle.link_ends.specs.Fits.{Fits}
use Rattle.link_ring.proofs.Rows.{IsRowPart}
use Rattle.link_ring.proofs.reunion.reunite_row.Given as goal

abbrev pub invariant-loop-step : goal.invariant-loop-step
invariant-loop-step g l = IsRowPart (Fits g.J.Task.meaning) l.cores l.sender l.step l.initial.all.items l.all.items
