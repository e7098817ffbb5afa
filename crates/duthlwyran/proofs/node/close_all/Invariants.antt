use Rattle.std.proofs.Common.{◌≡◌}
use Rattle.duthlwyran.specs.Finishes.{ClosesBelow}
use Rattle.duthlwyran.proofs.node.close_all.Given as goal

abbrev pub invariant-loop-core : goal.invariant-loop-core
invariant-loop-core g l = ClosesBelow l.mode l.core l.fn.runtime l.runtime
