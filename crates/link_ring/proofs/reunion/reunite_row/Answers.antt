use Rattle.std.proofs.Common.{arith}
use Rattle.link_ends.specs.Fits.{Fits}
use Rattle.link_ring.proofs.Rows.{row_begins, row_goes_on, row_ends}
use Rattle.link_ring.proofs.reunion.reunite_row.Goals as goal

pub loop-step-init : goal.loop-step-init
loop-step-init g c = row_begins (Fits g.J.Task.meaning) c.args.cores c.args.sender c.args.all.now.items c.requires.sender c.requires.closing

pub reunite_last-requires-clause-closing : goal.reunite_last-requires-clause-closing
reunite_last-requires-clause-closing g c = c.loop-step.invariant.closing _ (omega arith)

pub loop-step-preserved : goal.loop-step-preserved
loop-step-preserved g c =
    row_goes_on (Fits g.J.Task.meaning) c.args.cores c.args.sender c.loop-step.step c.args.all.now.items c.loop-step.all.items c.reunite_last.new.all.items
    c.requires.sender (omega arith) c.loop-step.invariant c.reunite_last.ensures

pub returns : goal.returns
returns g c =
    row_ends (Fits g.J.Task.meaning) c.args.cores c.args.sender c.loop-step.step c.args.all.now.items c.loop-step.all.items (omega arith) c.loop-step.invariant
