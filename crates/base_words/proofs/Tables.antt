-- What holds of each place of a table after one place was written.
use Rattle.base_words.proofs.Words.{cases_eq, get_or, get_or-set_other, get_or-set_same, inl, inr, length, List, refl, replicate, set, subst, suc, sym, zero, ℕ, ◌<◌, ◌≡◌, ◌⊎◌}

-- a new item at one place, and the others as they were
pub each_next : {A : Type 0} (P Q : ℕ → A → Type 0) (items : List A) (index : ℕ) (new default : A) → index < length items →
    ((place : ℕ) → (place ≡ index → ⊥) → P place (get_or items place default) → Q place (get_or items place default)) → Q index new →
    ((place : ℕ) → P place (get_or items place default)) → (place : ℕ) → Q place (get_or (set items index new) place default)
each_next P Q items index new default within others here was place = by_place (cases_eq place index)
  where
    by_place : (place ≡ index) ⊎ (place ≡ index → ⊥) → Q place (get_or (set items index new) place default)
    by_place (inl same) =
        subst (λ (at : ℕ). Q at (get_or (set items index new) at default)) (sym same)
        (subst (λ item. Q index item) (sym (get_or-set_same items index new default within)) here)
    by_place (inr apart) =
        subst (λ item. Q place item) (sym (get_or-set_other items index place new default apart)) (others place apart (was place))

-- items that are all alike
pub all_alike : {A : Type 0} (count place : ℕ) (item default : A) → item ≡ default → get_or (replicate count item) place default ≡ default
all_alike zero place item default is = refl
all_alike (suc count) zero item default is = is
all_alike (suc count) (suc place) item default is = all_alike count place item default is
