-- Cells that are at home, or hold nothing, when one of them changes.
use Rattle.link_board.proofs.Names.{ap, AreFree, AreHome, arith, Cell, Content, home_at, inl, inr, length, List, mod-lt, mul-div_cancel_left, None, one_turn, Option, place_of, refl, slice_get, Some, subst, sym, ℕ, [], ⊎_elim, ◌%◌, ◌*◌}
use Rattle.link_board.proofs.Names.{◌++◌, ◌+◌, ◌/◌, ◌<◌, ◌∙◌, ◌∷◌, ◌≡◌, ◌≢◌, ◌≤◌, ◌⊎◌}
use mathlib.Core.Logic.{dite}
use native.Mathlib.Decide.{ℕ_discrete}
use Rattle.link_board.proofs.Changes.{IsChanged}

-- the last element of a list
pub slice_get-last : {A : Type 0} (xs : List A) (last : A) → slice_get (xs ++ last ∷ []) (length xs) ≡ Some last
slice_get-last [] last = refl
slice_get-last (x ∷ xs) last = slice_get-last xs last

-- the place of an index lies where there is one for each turn of a lap
pub place-below : (gap n i len : ℕ) → ((turn : ℕ) → turn < n → (gap + 1) * turn < len) → 0 < n → place_of gap n i < len
place-below gap n i len enough some_cell = enough (i % n) (mod-lt i some_cell)

-- two turns with one place are one
pub same_turn : (gap x y : ℕ) → (gap + 1) * x ≡ (gap + 1) * y → x ≡ y
same_turn gap x y same = sym (mul-div_cancel_left x (omega arith)) ∙ (ap (λ (place : ℕ). place / (gap + 1)) same ∙ mul-div_cancel_left y (omega arith))

-- two indexes of one lap have two cells
pub apart : (gap n lap i j : ℕ) → lap ≤ i → i < lap + n → lap ≤ j → j < lap + n → i ≢ j → place_of gap n i ≢ place_of gap n j
apart gap n lap i j a b c d differ same = differ (order (le_or i j))
  where
    le_or : (x y : ℕ) → (x ≤ y) ⊎ (y ≤ x)
    le_or x y = grind arith

    turns : i % n ≡ j % n
    turns = same_turn gap (i % n) (j % n) same

    order : (i ≤ j) ⊎ (j ≤ i) → i ≡ j
    order (inl h) = one_turn i j n h (omega arith) turns
    order (inr h) = sym (one_turn j i n h (omega arith) (sym turns))

module _ {J T : Type 0} (gap : ℕ) (cells later : List (Cell (Content J T))) (n k word : ℕ) (now : Option (Content J T)) (is : IsChanged cells later (place_of gap n k) word now) where
  -- the cell of the index k changed: all others are where they were, and that one if it is among these
  pub AreHome-changed : (low high low' high' : ℕ) (content content' : ℕ → Content J T)
      → ((i : ℕ) → low' ≤ i → i < high' → i ≢ k → (low ≤ i) × (i < high) × (place_of gap n i ≢ place_of gap n k) × (content i ≡ content' i))
      → (low' ≤ k → k < high' → now ≡ Some (content' k))
      → AreHome gap cells n low high content → AreHome gap later n low' high' content'
  AreHome-changed low high low' high' content content' others here home i a b = dite (ℕ_discrete i k)
      (λ e. subst (λ (z : ℕ). home_at later (place_of gap n z) ≡ Some (content' z)) (sym e) (is.home_here ∙ here (omega arith) (omega arith)))
      (λ differ. let o = others i a b differ in is.home_else (place_of gap n i) o.2 ∙ (home i o.0 o.1 ∙ ap (λ (z : Content J T). Some z) o.3))

  pub AreFree-changed : (away away' : Option ℕ) (low high low' high' : ℕ)
      → ((i : ℕ) → low' ≤ i → i < high' → i ≢ k → (low ≤ i) × (i < high) × (place_of gap n i ≢ place_of gap n k))
      → ((i : ℕ) → place_of gap n i ≢ place_of gap n k → away ≡ Some (place_of gap n i) → away' ≡ Some (place_of gap n i))
      → (low' ≤ k → k < high' → (away' ≡ Some (place_of gap n k)) ⊎ (now ≡ Some None))
      → AreFree gap cells away n low high → AreFree gap later away' n low' high'
  AreFree-changed away away' low high low' high' others moves here free i a b = dite (ℕ_discrete i k)
      (λ e. subst (λ (z : ℕ). (away' ≡ Some (place_of gap n z)) ⊎ (home_at later (place_of gap n z) ≡ Some None)) (sym e)
      (⊎_elim (λ (x : away' ≡ Some (place_of gap n k)). inl x) (λ (x : now ≡ Some None). inr (is.home_here ∙ x)) (here (omega arith) (omega arith))))
      (λ differ. let o = others i a b differ in
      ⊎_elim (λ (x : away ≡ Some (place_of gap n i)). inl (moves i o.2 x)) (λ (x : home_at cells (place_of gap n i) ≡ Some None). inr (is.home_else (place_of gap n i) o.2 ∙ x)) (free i o.0 o.1))
