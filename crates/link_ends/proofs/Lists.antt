-- Lists that begin with another one, and what stands behind.
use Rattle.std.proofs.Common.{◌≡◌, ℕ, zero, suc, ◌+◌, ◌<◌, ◌≤◌, ◌⊎◌, inl, inr, List, [], ◌∷◌, ◌++◌, length, take, refl, ap, ◌∙◌, arith, Some, None}
use Rattle.std.specs.Prelude.{slice_get}
use Rattle.std.proofs.lemmas.List.{take-append-le}
use Rattle.std.proofs.lemmas.Option.{slice_get_within}
use Rattle.circular_buffer.proofs.Places.{slice_get-append_left}
use Rattle.base_words.specs.Assembly.{IsPrefix}

module _ {A : Type 0} where
  pub slice_get-starts : (whole front : List A) (i : ℕ) → IsPrefix front whole → i < length front → slice_get whole i ≡ slice_get front i
  slice_get-starts whole front i s h = ap (λ (z : List A). slice_get z i) s.1 ∙ slice_get-append_left front s.0 i h

  -- an item stays at its place in a longer list
  pub slice_get-seen : (whole front : List A) → IsPrefix front whole → (place : ℕ) (item : A) → slice_get front place ≡ Some item → slice_get whole place ≡ Some item
  slice_get-seen whole front starts place item at = slice_get-starts whole front place starts (slice_get_within front place item at) ∙ at

  -- the beginning of a longer list
  pub take-starts : (whole front : List A) (n : ℕ) → IsPrefix front whole → n ≤ length front → take n whole ≡ take n front
  take-starts whole front n starts low = ap (take n) starts.1 ∙ take-append-le n front starts.0 low

  -- what is found in a list with one more was there, or is the last
  pub slice_get-with_last : (xs : List A) (last found : A) (j : ℕ) → slice_get (xs ++ last ∷ []) j ≡ Some found
      → (slice_get xs j ≡ Some found) ⊎ ((j ≡ length xs) × (last ≡ found))
  slice_get-with_last [] last found zero e = inr (refl, cc)
  slice_get-with_last [] last found (suc j) e = absurd cc
  slice_get-with_last (x ∷ xs) last found zero e = inl e
  slice_get-with_last (x ∷ xs) last found (suc j) e = elim (slice_get-with_last xs last found j e) [ inl h ↦ inl h | inr h ↦ inr (ap suc h.0, h.1) ]

  -- nothing is found behind
  pub slice_get-behind : (xs : List A) (n : ℕ) → slice_get xs n ≡ None → length xs ≤ n
  slice_get-behind [] n e = omega arith
  slice_get-behind (x ∷ xs) zero e = absurd cc
  slice_get-behind (x ∷ xs) (suc n) e = let h : length xs ≤ n = slice_get-behind xs n e in omega arith
