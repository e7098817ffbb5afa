-- What stands first under a name, where a list grows at its end.
use Rattle.base_words.proofs.Words.{Bool, cond, false, first_under, inl, inr, IsPrefix, JobId, List, names_of, None, Option, refl, same_name, Some, subst, sym, true, with_last, [], ◌++◌, ◌||◌, ◌∷◌, ◌≡◌, ◌⊎◌}
use Rattle.base_words.proofs.NameLemmas.{among}

module _ {A : Type 0} (name : JobId) where
  -- what stands first stays first
  pub first_under-longer : (front rest : List (JobId × A)) (item : A) → first_under name front ≡ Some item → first_under name (front ++ rest) ≡ Some item
  first_under-longer [] rest item found = cc
  first_under-longer (entry ∷ front) rest item found = by_test (same_name name entry.0) found (first_under-longer front rest item)
    where
      by_test : (test : Bool) → cond test (Some entry.1) (first_under name front) ≡ Some item →
          (first_under name front ≡ Some item → first_under name (front ++ rest) ≡ Some item) → cond test (Some entry.1) (first_under name (front ++ rest)) ≡ Some item
      by_test true found later = found
      by_test false found later = later found

  -- so in each list that begins so
  pub first_under-prefix : (front whole : List (JobId × A)) (item : A) → IsPrefix front whole → first_under name front ≡ Some item → first_under name whole ≡ Some item
  first_under-prefix front whole item begins found =
      subst (λ entries. first_under name entries ≡ Some item) (sym begins.1) (first_under-longer front begins.0 item found)

  -- if one more comes at all
  pub first_under-stays : (entries : List (JobId × A)) (more : Option (JobId × A)) (item : A) → first_under name entries ≡ Some item →
      first_under name (with_last entries more) ≡ Some item
  first_under-stays entries None item found = found
  first_under-stays entries (Some entry) item found = first_under-longer entries (entry ∷ []) item found

  -- where nothing stood under the name, what comes is the first
  pub first_under-last : (entries : List (JobId × A)) (entry : JobId × A) → first_under name entries ≡ None →
      first_under name (entries ++ entry ∷ []) ≡ cond (same_name name entry.0) (Some entry.1) None
  first_under-last [] entry nothing = refl
  first_under-last (first ∷ entries) entry nothing = by_test (same_name name first.0) nothing (first_under-last entries entry)
    where
      by_test : (test : Bool) → cond test (Some first.1) (first_under name entries) ≡ None →
          (first_under name entries ≡ None → first_under name (entries ++ entry ∷ []) ≡ cond (same_name name entry.0) (Some entry.1) None) →
          cond test (Some first.1) (first_under name (entries ++ entry ∷ [])) ≡ cond (same_name name entry.0) (Some entry.1) None
      by_test true nothing later = cc
      by_test false nothing later = later nothing

  -- what is found was there, or came last
  pub first_under-came : (entries : List (JobId × A)) (entry : JobId × A) (item : A) → first_under name (entries ++ entry ∷ []) ≡ Some item →
      (first_under name entries ≡ Some item) ⊎ ((same_name name entry.0 ≡ true) × (entry.1 ≡ item))
  first_under-came [] entry item found = by_test (same_name name entry.0) found
    where
      by_test : (test : Bool) → cond test (Some entry.1) None ≡ Some item → (None ≡ Some item) ⊎ ((test ≡ true) × (entry.1 ≡ item))
      by_test true found = inr (refl, (cc))
      by_test false found = inl found
  first_under-came (first ∷ entries) entry item found = by_test (same_name name first.0) found (first_under-came entries entry item)
    where
      by_test : (test : Bool) → cond test (Some first.1) (first_under name (entries ++ entry ∷ [])) ≡ Some item →
          (first_under name (entries ++ entry ∷ []) ≡ Some item → (first_under name entries ≡ Some item) ⊎ ((same_name name entry.0 ≡ true) × (entry.1 ≡ item))) →
          (cond test (Some first.1) (first_under name entries) ≡ Some item) ⊎ ((same_name name entry.0 ≡ true) × (entry.1 ≡ item))
      by_test true found later = inl found
      by_test false found later = later found

  -- what is found under a name has it among the names
  pub first_under-among : (entries : List (JobId × A)) (item : A) → first_under name entries ≡ Some item → among name (names_of entries) ≡ true
  first_under-among [] item found = cc
  first_under-among (first ∷ entries) item found = by_test (same_name name first.0) found (first_under-among entries item)
    where
      by_test : (test : Bool) → cond test (Some first.1) (first_under name entries) ≡ Some item →
          (first_under name entries ≡ Some item → among name (names_of entries) ≡ true) → (test || among name (names_of entries)) ≡ true
      by_test true found later = refl
      by_test false found later = later found
