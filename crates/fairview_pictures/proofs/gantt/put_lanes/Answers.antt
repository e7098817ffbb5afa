use Rattle.std.proofs.Common.{string_bytes}
use Rattle.fairview_pictures.proofs.GanttLemmas.{before_lanes, after_lane}
use Rattle.fairview_pictures.proofs.gantt.put_lanes.Goals as goal

pub loop-core-init : goal.loop-core-init
loop-core-init c = before_lanes c.args.cut.now c.args.span c.args.assembly.now (string_bytes c.args.page.now)

pub loop-core-preserved : goal.loop-core-preserved
loop-core-preserved c =
    after_lane c.loop-core.core c.args.cut.now c.args.span c.args.assembly.now _ _ _ _ c.loop-core.invariant c.journal.ensures c.in_ok-put_lane.ensures
