-- The byte in front of the others tells which reader reads them.
use Rattle.std.proofs.Common.{◌≡◌, ℕ, List, [], ◌∷◌, Some, None, refl, ap}
use Rattle.text_parts.specs.ByteNotes.{byte_at}
use Rattle.text_parts.proofs.ByteFields.{some_is}

pub front_is : (bytes : List ℕ) (tag : ℕ) (rest : List ℕ) → byte_at bytes ≡ Some (tag, rest) → bytes ≡ tag ∷ rest
front_is [] tag rest e = absurd cc
front_is (byte ∷ bytes) tag rest e = ap (λ (p : ℕ × List ℕ). p.0 ∷ p.1) (some_is (byte, bytes) (tag, rest) e)

pub none_is : (bytes : List ℕ) → byte_at bytes ≡ None → bytes ≡ []
none_is [] e = refl
none_is (byte ∷ bytes) e = absurd cc
