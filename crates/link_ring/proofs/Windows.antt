-- The last element of a list.
use Rattle.std.proofs.Common.{◌≡◌, List, [], ◌∷◌, ◌++◌, length, Some, refl}
use Rattle.std.specs.Prelude.{slice_get}

-- the last element of a list
pub slice_get-last : {A : Type 0} (xs : List A) (last : A) → slice_get (xs ++ last ∷ []) (length xs) ≡ Some last
slice_get-last [] last = refl
slice_get-last (x ∷ xs) last = slice_get-last xs last
