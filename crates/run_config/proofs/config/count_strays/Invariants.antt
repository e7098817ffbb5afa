use Rattle.std.proofs.Common.{◌≡◌, ◌+◌, ◌≤◌, drop}
use Rattle.run_config.specs.Configs.{strays}
use Rattle.run_config.proofs.config.count_strays.Given as goal

abbrev pub invariant-loop-index : goal.invariant-loop-index
invariant-loop-index l = (l.count + strays l.cores (drop l.index l.queues) ≡ strays l.cores l.queues) × (l.count ≤ l.index)
