-- Places of lists: what stands at the end, and what one actor's new ends leave as it is.
use Rattle.std.proofs.Common.{◌≡◌, ◌≢◌, ℕ, ◌+◌, ◌<◌, List, [], ◌∷◌, ◌++◌, length, get_or, set, arith, ap, ◌∙◌, ⊎_elim, refl}
use Rattle.std.proofs.lemmas.Bool.{cases_eq}
use Rattle.std.proofs.lemmas.List.{get_or_append_left, get_or-set_same, get_or-set_other}
use Rattle.link_ring.specs.Ends.{EndsView}
use Rattle.link_ring.specs.Grid.{no_ends, ends_at}
use Rattle.link_ring.proofs.Parts.{at_end}

-- what is so of each item, and of one more, is so of each item then
pub each_more : {A : Type 0} (P : ℕ → A → Type 0) (xs : List A) (x none : A) → ((i : ℕ) → i < length xs → P i (get_or xs i none)) → P (length xs) x
    → (i : ℕ) → i < length xs + 1 → P i (get_or (xs ++ x ∷ []) i none)
each_more P xs x none each last i low =
    ⊎_elim
    (λ here. rw here (rw (at_end xs x none (length xs) refl) last))
    (λ other. let below : i < length xs = omega arith in rw (get_or_append_left xs (x ∷ []) none i below) (each i below))
    (cases_eq i (length xs))

module _ {J T B : Type 0} (f : EndsView J T → B) (all : List (EndsView J T)) (k : ℕ) (v : EndsView J T) (in_k : k < length all) where
  -- what the new ends have as the old ones is the same at each actor
  pub kept : f v ≡ f (ends_at k all) → (i : ℕ) → f (ends_at i (set all k v)) ≡ f (ends_at i all)
  kept same i =
      ⊎_elim
      (λ is. rw is (ap f (get_or-set_same all k v no_ends in_k) ∙ same))
      (λ other. ap f (get_or-set_other all k i v no_ends other))
      (cases_eq i k)

  pub here : f (ends_at k (set all k v)) ≡ f v
  here = ap f (get_or-set_same all k v no_ends in_k)

  pub elsewhere : (i : ℕ) → i ≢ k → f (ends_at i (set all k v)) ≡ f (ends_at i all)
  elsewhere i other = ap f (get_or-set_other all k i v no_ends other)
