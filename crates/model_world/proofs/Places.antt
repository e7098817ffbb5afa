-- A list of which one place was set, read at any place.
use Rattle.model_world.proofs.LinkWords.{◌≡◌, ℕ, ◌<◌, List, [], length, arith, get_or_past, sym, ◌∙◌, ap, subst, ◌⊎◌, inl, inr, ⊎_elim, get_or, set}
use Rattle.model_world.proofs.LinkWords.{get_or-set_same, get_or-set_other, cases_eq, cases_lt}
use Rattle.std.proofs.lemmas.List.{set_past}
pub use Rattle.actor_core.proofs.Given.{by_place}

-- where each list of some has no item, there is none at any place
pub none_anywhere : {A : Type 0} (rows : List (List A)) → ((place : ℕ) → place < length rows → get_or rows place [] ≡ []) → (place : ℕ) → get_or rows place [] ≡ []
none_anywhere rows each place = ⊎_elim (each place) (get_or_past rows place []) (cases_lt place (length rows))

-- and so in a table of lists
pub none_in_table : {A : Type 0} (table : List (List (List A))) →
    ((row place : ℕ) → row < length table → place < length (get_or table row []) → get_or (get_or table row []) place [] ≡ []) → (row place : ℕ) → get_or (get_or table row []) place [] ≡ []
none_in_table table each row place =
    ⊎_elim (λ known. none_anywhere (get_or table row []) (λ place there. each row place known there) place)
    (λ past. ap (λ row. get_or row place []) (get_or_past table row [] past) ∙ get_or_past [] place [] (omega arith)) (cases_lt row (length table))

module _ {A : Type 0} (items : List A) (place : ℕ) (item : A) (at : ℕ) (default : A) where
  -- the place that was set has the new item, and each other place what it had
  pub set_or : ((at ≡ place) × (get_or (set items place item) at default ≡ item)) ⊎ (get_or (set items place item) at default ≡ get_or items at default)
  set_or =
      ⊎_elim
      (λ here.
      ⊎_elim (λ within. inl (here, ap (λ at. get_or (set items place item) at default) here ∙ get_or-set_same items place item default within))
      (λ past. inr (ap (λ all. get_or all at default) (set_past items place item past))) (cases_lt place (length items)))
      (λ other. inr (get_or-set_other items place at item default other)) (cases_eq at place)

  -- what is so of the new item and of what was there is so of what is there
  pub set_each : (Holds : A → Type 0) → Holds item → Holds (get_or items at default) → Holds (get_or (set items place item) at default)
  set_each Holds new old = ⊎_elim (λ is. subst Holds (sym is.1) new) (λ is. subst Holds (sym is) old) set_or
