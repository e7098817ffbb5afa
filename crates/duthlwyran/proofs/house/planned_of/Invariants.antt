use Rattle.std.proofs.Common.{◌≡◌, ◌+◌, ◌≤◌, drop}
use Rattle.run_config.specs.Configs.{queues_of}
use Rattle.duthlwyran.proofs.house.planned_of.Given as goal

abbrev pub invariant-loop-index : goal.invariant-loop-index
invariant-loop-index l = (l.count + queues_of l.core-inside.0 (drop l.index l.queues) ≡ queues_of l.core-inside.0 l.queues) × (l.count ≤ l.index)
