use Rattle.std.proofs.Common.{ℕ, ◌<◌}
use Rattle.run_config.specs.Configs.{IsCoreGood}
use Rattle.run_config.proofs.config.are_cores_good.Given as goal

abbrev pub invariant-loop-core : goal.invariant-loop-core
invariant-loop-core l = (core : ℕ) → core < l.core → IsCoreGood l.cores l.cap l.burst l.room core l.queues
