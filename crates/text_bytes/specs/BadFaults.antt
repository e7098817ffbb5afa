-- A fault that no call may tell: the one of the call before.
use Rattle.std.specs.Prelude.{◌≡◌, ℕ, ◌+◌, Some}
use Rattle.text_bytes.specs.Tries.{HasFailed, HasFailedSince}

-- a device that has only counted its tries, each of which may fail, and none be interrupted
abbrev pub IsNext : ℕ → ℕ → Type 0
IsNext old new = new ≡ old + 1

abbrev pub IsNever : ℕ → ℕ → Type 0
IsNever old new = ⊥

-- the third try has just failed; the call that made it may tell so, and the next one can't unless it tries again
pub record StaleFaultsAreRefused : Type 0 where
  pub failed : HasFailed Some IsNever IsNext 2 3
  pub told : HasFailedSince Some IsNever IsNext 2 3
  pub stale : HasFailedSince Some IsNever IsNext 3 3 → ⊥
