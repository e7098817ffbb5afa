-- Tries that are counted, one after another.
use Rattle.std.proofs.Common.{◌≡◌, ℕ, ◌+◌, ◌≤◌, Option, None, Some, Result, Ok, Err, OnErr, arith}
use Rattle.text_bytes.specs.Tries.{IsOneMore, IsNoFewer, HasFailed, HasFailedSince, counted}

-- one try more is no try less
pub one_more_counts : (old new : Option ℕ) → IsOneMore old new → IsNoFewer old new
one_more_counts None new more = omega arith
one_more_counts (Some old) None more = absurd more
one_more_counts (Some old) (Some new) more = omega (arith, more)

pub no_fewer : (old now new : Option ℕ) → IsNoFewer old now → IsNoFewer now new → IsNoFewer old new
no_fewer old now new few more = omega (arith, few, more)

-- a fault of a later part of a call is one of the call
pub failed_since : {S : Type 0} (tries : S → Option ℕ) (interrupts fails : S → S → Type 0) (old now new : S) → IsNoFewer (tries old) (tries now) → HasFailedSince tries interrupts fails now new → HasFailedSince tries interrupts fails old new
failed_since tries interrupts fails old now new few (from, more, failed) = (from, omega (arith, few, more), failed)

pub failed_later : {S T E : Type 0} (tries : S → Option ℕ) (interrupts fails : S → S → Type 0) (old now new : S) (result : Result T E) → IsNoFewer (tries old) (tries now) → OnErr result (HasFailedSince tries interrupts fails now new) → OnErr result (HasFailedSince tries interrupts fails old new)
failed_later tries interrupts fails old now new (Ok value) few failed = tt
failed_later tries interrupts fails old now new (Err fault) few failed = failed_since tries interrupts fails old now new few failed

-- one of its last part too
pub failed_last : {S T E : Type 0} (tries : S → Option ℕ) (interrupts fails : S → S → Type 0) (old now new : S) (result : Result T E) → IsNoFewer (tries old) (tries now) → OnErr result (HasFailed tries interrupts fails now new) → OnErr result (HasFailedSince tries interrupts fails old new)
failed_last tries interrupts fails old now new (Ok value) few failed = tt
failed_last tries interrupts fails old now new (Err fault) few failed = (now, few, failed)
