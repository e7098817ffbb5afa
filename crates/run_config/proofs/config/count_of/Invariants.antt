use Rattle.std.proofs.Common.{◌≡◌, ◌+◌, ◌≤◌, drop}
use Rattle.run_config.specs.Configs.{queues_of}
use Rattle.run_config.proofs.config.count_of.Given as goal

abbrev pub invariant-loop-index : goal.invariant-loop-index
invariant-loop-index l = (l.count + queues_of l.core (drop l.index l.queues) ≡ queues_of l.core l.queues) × (l.count ≤ l.index)
