-- What is said of a fault can't be met by no try.
use Rattle.std.specs.Prelude.{◌≡◌, ℕ, ◌+◌, ◌<◌, Option, Some}
use Rattle.text_bytes.specs.Tries.{AreInterrupted, HasFailed, HasFailedSince}

-- a device that counts its tries has counted those that were interrupted; where nothing was tried, none failed, and 1000 were not interrupted;
-- a call that tells a fault has tried something itself
pub record FaultsAreTried {S : Type 0} (tries : S → Option ℕ) (interrupts fails : S → S → Type 0) : Type 0 where
  pub counted : (count before : ℕ) (old new : S) → tries old ≡ Some before → AreInterrupted tries interrupts count old new → tries new ≡ Some (before + count)
  pub untried : (before : ℕ) (old new : S) → tries old ≡ Some before → tries new ≡ Some before → HasFailed tries interrupts fails old new → ⊥
  pub since : (before : ℕ) (old new : S) → tries old ≡ Some before → HasFailedSince tries interrupts fails old new → (after : ℕ) × (before < after) × (tries new ≡ Some after)
