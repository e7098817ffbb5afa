-- What stands under a name, and names among others.
use Rattle.judge_fronts.proofs.Names.{among, ap, Bool, cond, false, first_under, first_under-among, is_some, IsPrefix, JobId, List, names_of, None, Option, refl, same_name, Some, sym, true, true≢false, [], ◌++◌, ◌∙◌, ◌∷◌, ◌≡◌, ◌||◌}

-- what is found under a name has it among the names
pub found_among : {A : Type 0} (name : JobId) (entries : List (JobId × A)) → is_some (first_under name entries) ≡ true → among name (names_of entries) ≡ true
found_among {A} name entries some = by_found (first_under name entries) refl some
  where
    by_found : (found : Option A) → first_under name entries ≡ found → is_some found ≡ true → among name (names_of entries) ≡ true
    by_found None is some = absurd (true≢false (sym some))
    by_found (Some item) is some = first_under-among name entries item is

-- and what has it among the names is found
pub among_found : {A : Type 0} (name : JobId) (entries : List (JobId × A)) → among name (names_of entries) ≡ true → is_some (first_under name entries) ≡ true
among_found name [] there = there
among_found name (entry ∷ entries) there = by_test (same_name name entry.0) there (among_found name entries)
  where
    by_test : (test : Bool) → (test || among name (names_of entries)) ≡ true → (among name (names_of entries) ≡ true → is_some (first_under name entries) ≡ true) →
        is_some (cond test (Some entry.1) (first_under name entries)) ≡ true
    by_test true there rest = refl
    by_test false there rest = rest there

-- who is there is there in a longer list
pub among_front : (name : JobId) (front whole : List JobId) → IsPrefix front whole → among name front ≡ true → among name whole ≡ true
among_front name front whole begins there = ap (among name) begins.1 ∙ longer front there
  where
    longer : (names : List JobId) → among name names ≡ true → among name (names ++ begins.0) ≡ true
    longer [] there = absurd (true≢false (sym there))
    longer (first ∷ names) there = by_test (same_name name first) there (longer names)
      where
        by_test : (test : Bool) → (test || among name names) ≡ true → (among name names ≡ true → among name (names ++ begins.0) ≡ true) →
            (test || among name (names ++ begins.0)) ≡ true
        by_test true there rest = refl
        by_test false there rest = rest there
