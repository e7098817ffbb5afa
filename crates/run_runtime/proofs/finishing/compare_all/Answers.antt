use Rattle.std.proofs.Common.{refl, arith}
use Rattle.run_runtime.proofs.Watched.{comparing_more}
use Rattle.run_runtime.proofs.finishing.compare_all.Goals as goal

pub loop-core-init : goal.loop-core-init
loop-core-init g c = record { ended_are = refl; watchers_are = refl; grows = λ core low. absurd (omega (arith, low)) }

pub loop-core-preserved : goal.loop-core-preserved
loop-core-preserved g c =
    comparing_more c.args.ended.now.items c.loop-core.ended.items c.compare_at.new.ended.items c.args.watchers.now.items c.loop-core.watchers.items c.compare_at.new.watchers.items c.loop-core.core c.loop-core.invariant
    c.compare_at.ensures.ended c.compare_at.ensures.watchers c.compare_at.ensures.grows
