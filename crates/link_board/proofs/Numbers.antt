-- The number in the word of a cell.
use Rattle.link_board.proofs.Names.{ap, AreNamed, arith, Bool, false, gate_bit, if◌then◌else◌, inl, inr, IsMarked, IsPrefix, le-ltb, length, List, lt-ltb, number_before, number_of, Outcome, place_of, refl, slice_get, slice_get-starts, Some}
use Rattle.link_board.proofs.Names.{suc, sym, true, zero, ℕ, [], ◌*◌, ◌+◌, ◌-◌, ◌<◌, ◌^◌, ◌∙◌, ◌∷◌, ◌≡◌, ◌≤◌}
use mathlib.Core.Logic.{dite}
use native.Mathlib.Decide.{dec_le}
use native.Mathlib.Nat.{add-mod_right}

pub slice_get-there : {A : Type 0} (xs : List A) (i : ℕ) → i < length xs → (x : A) × (slice_get xs i ≡ Some x)
slice_get-there [] i h = absurd (omega arith)
slice_get-there (x ∷ xs) zero h = (x, refl)
slice_get-there (x ∷ xs) (suc i) h = slice_get-there xs i (omega arith)

-- the place of an index of the next lap
pub place-again : (gap n i : ℕ) → place_of gap n (i + n) ≡ place_of gap n i
place-again gap n i = ap (λ (turn : ℕ). (gap + 1) * turn) (add-mod_right i n)

-- a number with the bit of its gate
pub IsMarked-own : (shut : Bool) (number word : ℕ) → word ≡ number + gate_bit shut → IsMarked shut number word
IsMarked-own true number word is = inr (is, refl)
IsMarked-own false number word is = inl (omega arith)

module _ {J T : Type 0} where
  pub number-low : (given : List (ℕ × Outcome J T)) (n i : ℕ) → i < n → number_before given n i ≡ 1
  number-low given n i low = ap (λ (b : Bool). if b then 1 else number_of (slice_get given (i - n))) (lt-ltb i n low)

  number-high : (given : List (ℕ × Outcome J T)) (n i : ℕ) → n ≤ i → number_before given n i ≡ number_of (slice_get given (i - n))
  number-high given n i high = ap (λ (b : Bool). if b then 1 else number_of (slice_get given (i - n))) (le-ltb i n high)

  -- the number of an outcome stands in the word that the next lap finds
  pub number-again : (given : List (ℕ × Outcome J T)) (n i : ℕ) (x : ℕ × Outcome J T) → slice_get given i ≡ Some x → number_before given n (i + n) ≡ x.0
  number-again given n i x there = number-high given n (i + n) (omega arith)
      ∙ (let e : i + n - n ≡ i = omega arith in ap (λ (z : ℕ). number_of (slice_get given z)) e ∙ ap number_of there)

  -- who has seen a beginning of what was given knows the numbers of it
  pub number-seen : (given seen : List (ℕ × Outcome J T)) (n i : ℕ) → IsPrefix seen given → i < length seen + n → number_before given n i ≡ number_before seen n i
  number-seen given seen n i starts near = dite (dec_le n i)
      (λ high. number-high given n i high
      ∙ (ap number_of (let h : i - n < length seen = omega arith in slice_get-starts given seen (i - n) starts h) ∙ sym (number-high seen n i high)))
      (λ low. let h : i < n = omega arith in number-low given n i h ∙ sym (number-low seen n i h))

  -- it is above 0, and has no top bit
  pub number-bounds : (base taken : ℕ) (given : List (ℕ × Outcome J T)) (n i : ℕ) → AreNamed base taken given → base + taken < 2 ^ 63 → i < length given + n
      → (0 < number_before given n i) × (number_before given n i < 2 ^ 63)
  number-bounds base taken given n i named small near = dite (dec_le n i)
      (λ high. let h : i - n < length given = omega arith in let x = slice_get-there given (i - n) h in
      let b = named.0 (i - n) x.0 x.1 in let is : number_before given n i ≡ x.0.0 = number-high given n i high ∙ ap number_of x.1 in
      let low : base < x.0.0 = b.0 in let top : x.0.0 ≤ base + taken = b.1 in (omega arith, omega arith))
      (λ low. let h : i < n = omega arith in let is : number_before given n i ≡ 1 = number-low given n i h in (omega arith, omega arith))
