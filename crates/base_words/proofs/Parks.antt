-- Who stays parked when a note ends parks, and whose park it ends.
use Rattle.base_words.proofs.Words.{arith, Bool, cond, ends_parks, false, inl, inr, is_name, JobId, Journal, length, length-filter_both, List, name_parked, name_parking, name_woken, names_like, None, not, Note, Option, parked, refl}
use Rattle.base_words.proofs.Words.{same_name, Some, still_parked, sym, true, true≢false, unparked, ℕ, [], ◌+◌, ◌∙◌, ◌∷◌, ◌≡◌, ◌⊎◌}
use Rattle.base_words.specs.Names.{names_but_for}
use Rattle.base_words.proofs.NameLemmas.{among, one_name, among-with_last, among-names_but_for, among-names_like, among-like, among-kept}

-- a job that is still parked was parked before, and its park isn't ended
pub record IsStill (name : JobId) (ends : Bool) (woken : Option JobId) (names : List JobId) : Type 0 where
  pub was : among name names ≡ true
  pub not_all : ends ≡ false
  pub not_woken : is_name name woken ≡ false

module _ {T : Type 0} (queue : ℕ) (note : Note T) (names : List JobId) (name : JobId) where
  pub among-still_parked : among name (still_parked queue note names) ≡ true → IsStill name (ends_parks queue note) (name_woken note) names
  among-still_parked there = by_test (ends_parks queue note) refl there
    where
      by_test : (test : Bool) → ends_parks queue note ≡ test → among name (cond test [] (names_but_for (name_woken note) names)) ≡ true →
          IsStill name test (name_woken note) names
      by_test true ends there = absurd (true≢false (sym there))
      by_test false stays there =
          let parts = among-names_but_for name (name_woken note) names there in
          record { was = parts.0; not_all = refl; not_woken = parts.1 }

  -- whose park is ended was parked before
  pub among-unparked : among name (unparked queue note names) ≡ true → among name names ≡ true
  among-unparked there = by_test (ends_parks queue note) there
    where
      by_test : (test : Bool) → among name (cond test names (names_like (name_woken note) names)) ≡ true → among name names ≡ true
      by_test true there = there
      by_test false there = (among-names_like name (name_woken note) names there).0

  -- nobody is both
  pub still_not_unparked : among name (still_parked queue note names) ≡ true → among name (unparked queue note names) ≡ true → ⊥
  still_not_unparked still woken =
      let stays = among-still_parked still in
      let like : among name (names_like (name_woken note) names) ≡ true = rw stays.not_all at woken in
      true≢false (sym (among-names_like name (name_woken note) names like).1 ∙ stays.not_woken)

  -- and everybody is one of them
  pub still_or_unparked : among name names ≡ true → (among name (still_parked queue note names) ≡ true) ⊎ (among name (unparked queue note names) ≡ true)
  still_or_unparked there = by_test (ends_parks queue note)
    where
      by_name : (woken : Option JobId) → (among name (names_but_for woken names) ≡ true) ⊎ (among name (names_like woken names) ≡ true)
      by_name None = inl there
      by_name (Some other) = by_same (same_name name other) refl
        where
          by_same : (test : Bool) → same_name name other ≡ test →
              (among name (names_but_for (Some other) names) ≡ true) ⊎ (among name (names_like (Some other) names) ≡ true)
          by_same true same = inr (rw (← one_name name other same) (among-like name names there))
          by_same false apart = inl (among-kept name other names there apart)

      by_test : (test : Bool) → (among name (cond test [] (names_but_for (name_woken note) names)) ≡ true) ⊎ (among name (cond test names (names_like (name_woken note) names)) ≡ true)
      by_test true = inr there
      by_test false = by_name (name_woken note)

-- of those that were parked each is still, or not
pub length-parks : {T : Type 0} (queue : ℕ) (note : Note T) (names : List JobId) → length (still_parked queue note names) + length (unparked queue note names) ≡ length names
length-parks queue note names = by_test (ends_parks queue note)
  where
    twice : (test : Bool) → test ≡ not (not test)
    twice true = refl
    twice false = refl

    by_name : (woken : Option JobId) → length (names_but_for woken names) + length (names_like woken names) ≡ length names
    by_name None = omega arith
    by_name (Some name) = length-filter_both (λ other. not (same_name name other)) (λ other. same_name name other) (λ other. twice (same_name name other)) names

    by_test : (test : Bool) → length (cond test [] (names_but_for (name_woken note) names)) + length (cond test names (names_like (name_woken note) names)) ≡ length names
    by_test true = omega arith
    by_test false = by_name (name_woken note)

-- who is parked after a note still is, or is parked by it
pub parked_parts : {T : Type 0} (queue : ℕ) (note : Note T) (before : Journal T) (name : JobId) → among name (parked queue (note ∷ before)) ≡ true →
    (among name (still_parked queue note (parked queue before)) ≡ true) ⊎ (name_parking queue note before ≡ Some name)
parked_parts queue note before name there =
    elim (among-with_last name (names_but_for (name_parked note) (still_parked queue note (parked queue before))) (name_parking queue note before) there)
    [ inl was ↦ inl (among-names_but_for name (name_parked note) (still_parked queue note (parked queue before)) was).0 | inr came ↦ inr came ]
