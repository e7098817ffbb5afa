-- The first of a list's items, by their places.
use Rattle.std.proofs.Common.{◌≡◌, ℕ, zero, suc, ◌<◌, List, [], ◌∷◌, Some, refl, arith}
use Rattle.std.specs.Prelude.{slice_get, take}
use Rattle.base_words.specs.declared.order.Order.{Order}
use Rattle.base_words.specs.declared.order.Outcome.{Outcome}
use Rattle.link_ends.specs.Ends.{AreOf}

-- what stands among the first stands in the list, at the same place
pub get-taken : {A : Type 0} (count : ℕ) (items : List A) (place : ℕ) (item : A) → slice_get (take count items) place ≡ Some item → slice_get items place ≡ Some item
get-taken zero items place item at = absurd cc
get-taken (suc count) [] place item at = absurd cc
get-taken (suc count) (first ∷ rest) zero item at = at
get-taken (suc count) (first ∷ rest) (suc place) item at = get-taken count rest place item at

-- what stands in the list before the end of the first stands among them
pub taken-get : {A : Type 0} (count : ℕ) (items : List A) (place : ℕ) (item : A) → place < count → slice_get items place ≡ Some item → slice_get (take count items) place ≡ Some item
taken-get zero items place item low at = absurd (omega arith)
taken-get (suc count) [] place item low at = absurd cc
taken-get (suc count) (first ∷ rest) zero item low at = at
taken-get (suc count) (first ∷ rest) (suc place) item low at = taken-get count rest place item (omega arith) at

pub take-nothing : {A : Type 0} (count : ℕ) → take {A = A} count [] ≡ []
take-nothing zero = refl
take-nothing (suc count) = refl

-- outcomes that are those of orders are so as far as they were got
pub AreOf-taken : {J T : Type 0} (fits : Order J → Outcome J T → Type 0) (base : ℕ) (orders : List (Order J)) (outcomes : List (ℕ × Outcome J T)) (count : ℕ) →
    AreOf fits base orders outcomes → AreOf fits base orders (take count outcomes)
AreOf-taken fits base orders outcomes count are = (
  λ i x at. are.0 i x (get-taken count outcomes i x at),
  λ i j x y first second same. are.1 i j x y (get-taken count outcomes i x first) (get-taken count outcomes j y second) same,
)
