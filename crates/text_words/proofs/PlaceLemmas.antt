-- A search answers the place of the first byte that passes, or nothing where it is the length.
use Rattle.std.proofs.Common.{◌≡◌, ℕ, Bool, cond, ltb, not, List, length, Option, Some, None, arith}
use Rattle.std.proofs.lemmas.Bool.Decides.{nat_tests}
use Rattle.std.specs.List.{position_or_len}
use Rattle.std.proofs.lemmas.List.Sums.{prefix_len-le-length}

abbrev found : (ℕ → Bool) → List ℕ → Option ℕ
found p bytes = cond (ltb (position_or_len p bytes) (length bytes)) (Some (position_or_len p bytes)) None

pub position_at : (p : ℕ → Bool) (bytes : List ℕ) (o : Option ℕ) (place : ℕ) → o ≡ found p bytes → o ≡ Some place → place ≡ position_or_len p bytes
position_at p bytes o place e is = grind (arith, nat_tests)

pub position_none : (p : ℕ → Bool) (bytes : List ℕ) (o : Option ℕ) → o ≡ found p bytes → o ≡ None → length bytes ≡ position_or_len p bytes
position_none p bytes o e is = let most = prefix_len-le-length (λ x. not (p x)) bytes in grind (arith, nat_tests, most)
