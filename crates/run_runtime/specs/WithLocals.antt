-- How a runtime of jobs that share a state of their core starts and finishes.
use Rattle.std.specs.Prelude.{◌≡◌, ℕ, ◌+◌, List, Result, Ok, Err}
use Rattle.run_config.specs.Configs.{Entry, IsGood}
use Rattle.run_runtime.specs.declared.error.StartError.{StartError}
use Rattle.run_runtime.specs.declared.error.StartError.TheVariants.{BadConfig}
use Rattle.run_runtime.specs.Calls.{Starts}
use Rattle.run_runtime.specs.WithSinks.{StartsWithSinks}
use Rattle.actor_caller.specs.State.{RuntimeView}

-- a start with so many states: one for each core is wanted, and otherwise the configuration is not good
abbrev pub StartsWithLocals : {J T : Type 0} → ℕ → ℕ → ℕ → ℕ → List Entry → ℕ → ℕ → ℕ → Result (RuntimeView J T) StartError → Type 0
StartsWithLocals cores cap burst room queues clocks gates locals (Err BadConfig) = IsGood cores cap burst room queues clocks gates → locals ≡ cores → ⊥
StartsWithLocals cores cap burst room queues clocks gates locals answer = (locals ≡ cores) × Starts cores cap burst room queues clocks gates answer

-- the same, with so many sinks
abbrev pub StartsWithSinksAndLocals : {J T : Type 0} → ℕ → ℕ → ℕ → ℕ → List Entry → ℕ → ℕ → ℕ → ℕ → Result (RuntimeView J T) StartError → Type 0
StartsWithSinksAndLocals cores cap burst room queues clocks gates sinks locals (Err BadConfig) =
    IsGood cores cap burst room queues clocks gates → sinks ≡ cores + 1 → locals ≡ cores → ⊥
StartsWithSinksAndLocals cores cap burst room queues clocks gates sinks locals answer =
    (locals ≡ cores) × StartsWithSinks cores cap burst room queues clocks gates sinks answer

-- what a finish answers, without the states
abbrev pub without_locals : {P L E : Type 0} → Result (P × L) E → Result P E
without_locals (Ok both) = Ok both.0
without_locals (Err error) = Err error
