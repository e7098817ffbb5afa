-- A step of Euclid's division.
use Rattle.std.proofs.Common.{ℕ}
use Rattle.std.specs.Prelude.{◌%◌, ◌↔◌}
use Rattle.std.specs.Int.{IsGcd}
use Rattle.std.proofs.Math.Nat.{dvd-mod_iff}
use Rattle.std.proofs.lemmas.Nat.Gcd.{IsGcd-from_mod}

-- a division leaves the greatest common divisor as it was
pub IsGcd-mod : (a b g : ℕ) → IsGcd a b g ↔ IsGcd b (a % b) g
IsGcd-mod a b g = (
  (λ both. (both.1, (dvd-mod_iff g both.1).1 both.0, (λ d of_b of_rest. both.2 d ((dvd-mod_iff d of_b).0 of_rest) of_b))),
  IsGcd-from_mod a b g,
)
