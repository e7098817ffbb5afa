-- A table whose places are changed one after another.
use Rattle.std.proofs.Common.{◌≡◌, ℕ, ◌+◌, ◌<◌, ◌≤◌, List, length, refl, sym, subst, ap, ◌∙◌, get_or, set, ◌⊎◌, inl, inr, get_or-set_other, get_or-set_same, arith}
use Rattle.std.proofs.Math.ListN.{length-set}
use Rattle.std.proofs.lemmas.Bool.{cases_eq}

-- the places below the count are changed so, and the others are as they were
pub record AreChanged {A : Type 0} (change : ℕ → A → A) (default : A) (old new : List A) (count : ℕ) : Type 0 where
  pub changed : (place : ℕ) → place < count → get_or new place default ≡ change place (get_or old place default)
  pub others : (place : ℕ) → count ≤ place → get_or new place default ≡ get_or old place default
  pub sized : length new ≡ length old

module _ {A : Type 0} (change : ℕ → A → A) (default : A) (old : List A) where
  pub none_changed : AreChanged change default old old 0
  none_changed = record { changed = λ place less. absurd (omega arith); others = λ place past. refl; sized = refl }

  -- one place more
  pub one_changed : (new : List A) (count : ℕ) (item : A) → AreChanged change default old new count → count < length new →
      item ≡ change count (get_or new count default) → AreChanged change default old (set new count item) (count + 1)
  one_changed new count item so_far within is = record {
    changed = λ place less. here place less (cases_eq place count);
    others =
        λ place past.
        get_or-set_other new count place item default (λ same. absurd (omega (arith, same))) ∙ so_far.others place (omega arith);
    sized = length-set new count item ∙ so_far.sized;
  }
    where
      here : (place : ℕ) → place < count + 1 → (place ≡ count) ⊎ (place ≡ count → ⊥) → get_or (set new count item) place default ≡ change place (get_or old place default)
      here place less (inl same) =
          subst (λ (at : ℕ). get_or (set new count item) at default ≡ change at (get_or old at default)) (sym same)
          (get_or-set_same new count item default within ∙ (is ∙ ap (change count) (so_far.others count (omega arith))))
      here place less (inr apart) = get_or-set_other new count place item default apart ∙ so_far.changed place (below place less apart)
        where
          below : (place : ℕ) → place < count + 1 → (place ≡ count → ⊥) → place < count
          below place less apart = omega arith
