-- The fault of the call before can't be told.
use Rattle.std.proofs.Common.{◌≡◌, ℕ, ◌+◌, ◌<◌, Some, inl, refl, arith}
use Rattle.text_bytes.specs.Tries.{FailsAfter, HasFailed, HasFailedSince}
use Rattle.text_bytes.specs.BadFaults.{IsNext, IsNever, StaleFaultsAreRefused}
use Rattle.text_bytes.proofs.LawLemmas.{since}

third : HasFailed Some IsNever IsNext 2 3
third = inl (record { count = 0; few = omega arith; between = 2; interrupted = refl; failed = refl; counted = refl })

stale : HasFailedSince Some IsNever IsNext 3 3 → ⊥
stale told =
    let more = since Some IsNever IsNext 3 3 3 refl told in
    let same : more.0 ≡ 3 = cc in
    omega (arith, more.1, same)

pub stale_refused : StaleFaultsAreRefused
stale_refused = record { failed = third; told = (2, omega arith, third); stale = stale }
