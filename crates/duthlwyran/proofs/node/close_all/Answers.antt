use Rattle.std.proofs.Common.{refl}
use Rattle.duthlwyran.proofs.Closings.{closes_more}
use Rattle.duthlwyran.proofs.node.close_all.Goals as goal

pub loop-core-init : goal.loop-core-init
loop-core-init g c = refl

pub loop-core-preserved : goal.loop-core-preserved
loop-core-preserved g c = closes_more c.args.mode c.loop-core.core _ _ _ c.loop-core.invariant c.close_at.ensures
