-- A runtime that has a state too few is no start.
use Rattle.std.proofs.Common.{ℕ, ◌<◌, List, arith}
use Rattle.std.specs.Prelude.{Ok}
use Rattle.run_config.specs.Configs.{Entry}
use Rattle.actor_caller.specs.State.{RuntimeView}
use Rattle.run_runtime.specs.WithLocals.{StartsWithLocals, StartsWithSinksAndLocals}

module _ {J T : Type 0} (cores cap burst room : ℕ) (queues : List Entry) (clocks gates sinks locals : ℕ) (view : RuntimeView J T) (few : locals < cores) where
  pub too_few_refused : StartsWithLocals cores cap burst room queues clocks gates locals (Ok view) → ⊥
  too_few_refused starts = omega (arith, few, starts.0)

  pub too_few_beside_sinks_refused : StartsWithSinksAndLocals cores cap burst room queues clocks gates sinks locals (Ok view) → ⊥
  too_few_beside_sinks_refused starts = omega (arith, few, starts.0)
