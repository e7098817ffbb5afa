use Rattle.judge_audit.specs.Winners.{IsOnTheWay}
use Rattle.judge_audit.proofs.least.Least.set.Given as goal

abbrev pub invariant-loop-node : goal.invariant-loop-node
invariant-loop-node l = IsOnTheWay l.fn.self l.self l.fn.queue (record { vr = l.vr; queue = l.fn.queue }) l.node

abbrev pub decreases-loop-node : goal.decreases-loop-node
decreases-loop-node l = l.node
