use Rattle.link_ends.specs.Fits.{Fits}
use Rattle.link_ring.proofs.Rows.{AreRowsPart}
use Rattle.link_ring.proofs.reunion.reunite_all.Given as goal

abbrev pub invariant-loop-step : goal.invariant-loop-step
invariant-loop-step g l = AreRowsPart (Fits g.J.Task.meaning) l.cores l.step l.fn.all.items l.all.items
