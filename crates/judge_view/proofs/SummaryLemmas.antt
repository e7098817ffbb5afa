-- What stands at a place of a list.
use Rattle.std.proofs.Common.{◌≡◌, ℕ, zero, suc, ◌<◌, List, [], ◌∷◌, length, get_or, ap, sym, arith}
use Rattle.std.specs.Prelude.{Some, slice_get}

pub get_there : {A : Type 0} (items : List A) (place : ℕ) (item : A) → place < length items → item ≡ get_or items place item →
    slice_get items place ≡ Some item
get_there [] place item there is = absurd (omega arith)
get_there (first ∷ items) zero item there is = ap Some (sym is)
get_there (first ∷ items) (suc place) item there is = get_there items place item (omega arith) is
