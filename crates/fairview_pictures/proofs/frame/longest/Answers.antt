use Rattle.std.proofs.Common.{sym}
use Rattle.fairview_pictures.proofs.GanttLemmas.{no_core, after_core}
use Rattle.fairview_pictures.proofs.frame.longest.Goals as goal

pub loop-core-init : goal.loop-core-init
loop-core-init c = sym (no_core c.args.cut.now c.args.assembly.now)

pub loop-core-preserved : goal.loop-core-preserved
loop-core-preserved c =
    after_core c.loop-core.core c.loop-core.most c.longer-most.result c.args.cut.now c.journal.result.now.notes c.args.assembly.now c.loop-core.invariant c.journal.ensures
    c.longer-most.ensures
