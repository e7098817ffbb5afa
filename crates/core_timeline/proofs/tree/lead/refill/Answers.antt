use Rattle.std.proofs.Common.{◌≤◌, arith}
use Rattle.core_timeline.proofs.Heights.{IsLow-from_filled}
use Rattle.core_timeline.proofs.tree.lead.refill.Goals as goal

pub height-height-requires : goal.height-height-requires
height-height-requires g c =
    let low : c.args.later.now.height ≤ 18 = IsLow-from_filled c.args.later.now c.know_filled.ensures 9 (omega (arith, c.requires.few)) in
    omega arith
