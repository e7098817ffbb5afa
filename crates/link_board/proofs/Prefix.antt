-- Beginnings of one list.
use Rattle.link_board.proofs.Names.{ap, AreOf, arith, IsPrefix, IsPrefix-take, length, length-take, List, Order, Outcome, refl, slice_get, slice_get-seen, Some, subst, suc, take, zero, ℕ, [], ◌<◌, ◌∙◌, ◌∷◌, ◌≡◌, ◌≤◌}
use lib.Seq.{take-take, take_at}

slice_get-take : {A : Type 0} (m : ℕ) (xs : List A) (i : ℕ) → i < m → slice_get (take m xs) i ≡ slice_get xs i
slice_get-take zero xs i h = absurd (omega arith)
slice_get-take (suc m) [] i h = refl
slice_get-take (suc m) (x ∷ xs) zero h = refl
slice_get-take (suc m) (x ∷ xs) (suc i) h = slice_get-take m xs i (omega arith)

module _ {A : Type 0} (whole : List A) (m : ℕ) where
  -- a beginning is one of each longer beginning
  pub IsPrefix-within : (front : List A) → IsPrefix front whole → length front ≤ m → IsPrefix front (take m whole)
  IsPrefix-within front s h =
      subst (λ (z : List A). IsPrefix z (take m whole)) (take-take (length front) m whole h ∙ (ap (take (length front)) s.1 ∙ take_at front s.0 (length front) refl)) (IsPrefix-take (length front) (take m whole))

  pub length-front : m ≤ length whole → length (take m whole) ≡ m
  length-front h = let e = length-take m whole in omega arith

  pub slice_get-front : (i : ℕ) (item : A) → i < m → slice_get whole i ≡ Some item → slice_get (take m whole) i ≡ Some item
  slice_get-front i item h is = slice_get-take m whole i h ∙ is

-- what is of these orders is so in each beginning
pub AreOf-front : {J T : Type 0} (fits : Order J → Outcome J T → Type 0) (base : ℕ) (orders : List (Order J)) (front whole : List (ℕ × Outcome J T)) → IsPrefix front whole
    → AreOf fits base orders whole → AreOf fits base orders front
AreOf-front fits base orders front whole starts are = (
  λ i x e. are.0 i x (slice_get-seen whole front starts i x e),
  λ i j x y e f same. are.1 i j x y (slice_get-seen whole front starts i x e) (slice_get-seen whole front starts j y f) same,
)
