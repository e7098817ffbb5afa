use Rattle.run_runtime.proofs.Watched.{IsComparing}
use Rattle.run_runtime.proofs.finishing.compare_all.Given as goal

abbrev pub invariant-loop-core : goal.invariant-loop-core
invariant-loop-core g l = IsComparing l.fn.ended.items l.ended.items l.fn.watchers.items l.watchers.items l.core
