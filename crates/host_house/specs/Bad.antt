-- Answers that no call may give, each refused by the definition that judges it.
use Rattle.std.proofs.Common.{arith}
use Rattle.std.specs.Prelude.{Err}
use Rattle.host_core.specs.declared.answers.Refusal.TheVariants as refusal
use Rattle.host_house.specs.Houses.{AreGood}
use Rattle.host_house.specs.Outside.{CallerView, Collects}

-- a house without a core
pub no_core_is_good : AreGood 0 4 1 100 → ⊥
no_core_is_good good = omega (arith, good.limits.some_core)

-- a collection is told that the host runs a job
pub collecting_is_busy : (old new : CallerView) → Collects 0 old (Err refusal.Busy) new → ⊥
collecting_is_busy old new told = told
