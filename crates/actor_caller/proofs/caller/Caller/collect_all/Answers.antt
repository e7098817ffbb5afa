use Rattle.std.proofs.Common.{arith, refl}
use Rattle.actor_caller.proofs.InARow.{below_more, collected_count, told_none, told_one}
use Rattle.actor_caller.proofs.caller.Caller.collect_all.Goals as goal
use Rattle.actor_caller.proofs.caller.Caller.collect_all.Goals.{then-collect-gt0, else-collect-gt0}

pub loop-core-init : goal.loop-core-init
loop-core-init g c = record { collects = refl; longer = omega arith; told = grind arith }

pub loop-core-preserved : goal.loop-core-preserved
loop-core-preserved g c =
    let count = collected_count c.loop-core.core c.collect.result c.loop-core.self c.collect.new.self c.collect.ensures in
    record {
      collects = below_more c.loop-core.core c.collect.result c.args.self.now c.loop-core.self c.collect.new.self c.loop-core.invariant.collects c.collect.ensures;
      longer = omega (arith, c.loop-core.invariant.longer, count);
      told = elim c.if-collect-gt0.branch [
        | then-collect-gt0 w ↦ told_one _ _ _ c.collect.result _ w.some-is w.if-collect-gt0.true c.loop-core.invariant.longer count
        | else-collect-gt0 w ↦ told_none _ c.loop-core.some _ _ c.collect.result _ w.some-is w.if-collect-gt0.false count c.loop-core.invariant.told
      ];
    }
