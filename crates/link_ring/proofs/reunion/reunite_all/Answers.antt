use Rattle.std.proofs.Common.{arith}
use Rattle.link_ends.specs.Fits.{Fits}
use Rattle.link_ring.proofs.Rows.{rows_begin, rows_go_on, rows_end}
use Rattle.link_ring.proofs.reunion.reunite_all.Goals as goal

pub loop-step-init : goal.loop-step-init
loop-step-init g c = rows_begin (Fits g.J.Task.meaning) c.args.cores c.args.all.items c.requires

pub reunite_row-requires-clause-closing : goal.reunite_row-requires-clause-closing
reunite_row-requires-clause-closing g c = c.loop-step.invariant.closing _ (omega arith)

pub loop-step-preserved : goal.loop-step-preserved
loop-step-preserved g c =
    rows_go_on (Fits g.J.Task.meaning) c.args.cores c.loop-step.step c.args.all.items c.loop-step.all.items c.reunite_row.new.all.items
    (omega arith) c.loop-step.invariant c.reunite_row.ensures

pub returns : goal.returns
returns g c =
    rows_end (Fits g.J.Task.meaning) c.args.cores c.loop-step.step c.args.all.items c.loop-step.all.items (omega arith) c.loop-step.invariant
