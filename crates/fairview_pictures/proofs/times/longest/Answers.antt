use Rattle.std.proofs.Common.{◌∙◌, ap, sym}
use Rattle.judge_view.specs.Clocks.{busy_time}
use Rattle.fairview_pictures.proofs.TraceLemmas.{no_core, after_core}
use Rattle.fairview_pictures.proofs.times.longest.Goals as goal

pub loop-core-init : goal.loop-core-init
loop-core-init c = sym (no_core c.args.assembly.now)

pub loop-core-preserved : goal.loop-core-preserved
loop-core-preserved c =
    after_core c.loop-core.core c.loop-core.most c.busy_time.result c.max-most.result c.args.assembly.now c.loop-core.invariant
    (c.busy_time.ensures ∙ ap busy_time c.journal.ensures) c.max-most.ensures
