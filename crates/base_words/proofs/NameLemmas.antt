-- Names that are one, and names among others.
use Rattle.base_words.proofs.Words.{and_parts, ap, Bool, cond, eq-eqb, eqb-true, false, inl, inr, is_name, is_number, JobId, List, names_like, None, not, Option, or_parts, refl, same_name, Some, sym, true, true≢false, with_all, with_last}
use Rattle.base_words.proofs.Words.{ℕ, [], ◌&&◌, ◌++◌, ◌==◌, ◌||◌, ◌∙◌, ◌∷◌, ◌≡◌, ◌⊎◌}
use Rattle.base_words.specs.Names.{names_but, names_but_for}
pub use Rattle.base_words.specs.Names.{among}

-- names with the same parts are one
from_parts : (a b : JobId) → a.from ≡ b.from → a.to ≡ b.to → a.number ≡ b.number → a ≡ b
from_parts a b p q r = λ i. record { from = p i; to = q i; number = r i }

-- names that the test takes for one are one
pub one_name : (a b : JobId) → same_name a b ≡ true → a ≡ b
one_name a b same =
    let ends = and_parts (a.from == b.from && a.to == b.to) (a.number == b.number) same in
    let links = and_parts (a.from == b.from) (a.to == b.to) ends.0 in
    from_parts a b (eqb-true a.from b.from links.0) (eqb-true a.to b.to links.1) (eqb-true a.number b.number ends.1)

-- a name is itself
pub same_as_itself : (a : JobId) → same_name a a ≡ true
same_as_itself a = rw (eq-eqb a.from a.from refl, eq-eqb a.to a.to refl, eq-eqb a.number a.number refl)

-- what the test takes for a name is that name
pub is_name-some : (name : JobId) (list_told : Option JobId) → is_name name list_told ≡ true → list_told ≡ Some name
is_name-some name None list_told = cc
is_name-some name (Some other) list_told = ap Some (sym (one_name name other list_told))

-- who is there after one more came
pub among-with_last : (name : JobId) (names : List JobId) (more : Option JobId) → among name (with_last names more) ≡ true →
    (among name names ≡ true) ⊎ (more ≡ Some name)
among-with_last name names None there = inl there
among-with_last name [] (Some other) there = inr (is_name-some name (Some other) (one_there (same_name name other) there))
  where
    one_there : (test : Bool) → (test || false) ≡ true → test ≡ true
    one_there true there = refl
    one_there false there = there
among-with_last name (first ∷ names) (Some other) there =
    by_first (same_name name first) there (among-with_last name names (Some other))
  where
    by_first : (test : Bool) → (test || among name (names ++ other ∷ [])) ≡ true →
        (among name (names ++ other ∷ []) ≡ true → (among name names ≡ true) ⊎ (Some other ≡ Some name)) →
        ((test || among name names) ≡ true) ⊎ (Some other ≡ Some name)
    by_first true there rest = inl refl
    by_first false there rest = rest there

-- who is there after one went
pub among-names_but_for : (name : JobId) (gone : Option JobId) (names : List JobId) → among name (names_but_for gone names) ≡ true →
    (among name names ≡ true) × (is_name name gone ≡ false)
among-names_but_for name None names there = (there, refl)
among-names_but_for name (Some other) [] there = cc
among-names_but_for name (Some other) (first ∷ names) there =
    by_tests (same_name other first) refl (same_name name first) refl there (among-names_but_for name (Some other) names)
  where
    by_tests : (dropped : Bool) → same_name other first ≡ dropped → (here : Bool) → same_name name first ≡ here →
        among name (cond (not dropped) (first ∷ names_but other names) (names_but other names)) ≡ true →
        (among name (names_but other names) ≡ true → (among name names ≡ true) × (same_name name other ≡ false)) →
        ((here || among name names) ≡ true) × (same_name name other ≡ false)
    by_tests true at_other true at_name there rest = (refl, (rest there).1)
    by_tests true at_other false at_name there rest = rest there
    by_tests false at_other true at_name there rest = (refl, apart (same_name name other) refl)
      where
        apart : (test : Bool) → same_name name other ≡ test → test ≡ false
        apart false same = refl
        apart true same = rw (← one_name name other same, at_name) at at_other
    by_tests false at_other false at_name there rest = rest (rw at_name at there)

-- who is there after several more came
pub among-with_all : (name : JobId) (names more : List JobId) → among name (with_all names more) ≡ true → (among name names ≡ true) ⊎ (among name more ≡ true)
among-with_all name names [] there = inl there
among-with_all name names (other ∷ more) there = among-append names there
  where
    among-append : (names : List JobId) → among name (names ++ other ∷ more) ≡ true → (among name names ≡ true) ⊎ (among name (other ∷ more) ≡ true)
    among-append [] there = inr there
    among-append (first ∷ names) there = by_first (same_name name first) there (among-append names)
      where
        by_first : (test : Bool) → (test || among name (names ++ other ∷ more)) ≡ true →
            (among name (names ++ other ∷ more) ≡ true → (among name names ≡ true) ⊎ (among name (other ∷ more) ≡ true)) →
            ((test || among name names) ≡ true) ⊎ (among name (other ∷ more) ≡ true)
        by_first true there rest = inl refl
        by_first false there rest = rest there

-- who is there stays there, when several more come
pub among-all_stays : (name : JobId) (names more : List JobId) → among name names ≡ true → among name (with_all names more) ≡ true
among-all_stays name names [] there = there
among-all_stays name [] (other ∷ more) there = cc
among-all_stays name (first ∷ names) (other ∷ more) there = by_first (same_name name first) there (among-all_stays name names (other ∷ more))
  where
    by_first : (test : Bool) → (test || among name names) ≡ true → (among name names ≡ true → among name (names ++ other ∷ more) ≡ true) →
        (test || among name (names ++ other ∷ more)) ≡ true
    by_first true there rest = refl
    by_first false there rest = rest there

-- and who comes with them is there
pub among-all_come : (name : JobId) (names more : List JobId) → among name more ≡ true → among name (with_all names more) ≡ true
among-all_come name names [] there = absurd (true≢false (sym there))
among-all_come name [] (other ∷ more) there = there
among-all_come name (first ∷ names) (other ∷ more) there = by_first (same_name name first) (among-all_come name names (other ∷ more) there)
  where
    by_first : (test : Bool) → among name (names ++ other ∷ more) ≡ true → (test || among name (names ++ other ∷ more)) ≡ true
    by_first true rest = refl
    by_first false rest = rest

-- who is left of the names like one is that one
pub among-names_like : (name : JobId) (which : Option JobId) (names : List JobId) → among name (names_like which names) ≡ true →
    (among name names ≡ true) × (is_name name which ≡ true)
among-names_like name None names there = absurd (true≢false (sym there))
among-names_like name (Some other) [] there = absurd (true≢false (sym there))
among-names_like name (Some other) (first ∷ names) there =
    by_tests (same_name other first) refl (same_name name first) refl there (among-names_like name (Some other) names)
  where
    by_tests : (kept : Bool) → same_name other first ≡ kept → (here : Bool) → same_name name first ≡ here →
        among name (cond kept (first ∷ names_like (Some other) names) (names_like (Some other) names)) ≡ true →
        (among name (names_like (Some other) names) ≡ true → (among name names ≡ true) × (same_name name other ≡ true)) →
        ((here || among name names) ≡ true) × (same_name name other ≡ true)
    by_tests true at_other true at_name there rest =
        let one : name ≡ other = one_name name first at_name ∙ sym (one_name other first at_other) in
        (refl, rw (one, same_as_itself other))
    by_tests true at_other false at_name there rest = rest (rw at_name at there)
    by_tests false at_other true at_name there rest = (refl, (rest there).1)
    by_tests false at_other false at_name there rest = rest there

-- and it is, if it was there
pub among-like : (name : JobId) (names : List JobId) → among name names ≡ true → among name (names_like (Some name) names) ≡ true
among-like name [] there = there
among-like name (first ∷ names) there = by_test (same_name name first) refl there (among-like name names)
  where
    by_test : (test : Bool) → same_name name first ≡ test → (test || among name names) ≡ true → (among name names ≡ true → among name (names_like (Some name) names) ≡ true) →
        among name (cond test (first ∷ names_like (Some name) names) (names_like (Some name) names)) ≡ true
    by_test true same there rest = rw same
    by_test false apart there rest = rest there

-- without a name that is not there the names are the same
pub names_but-other : (gone : JobId) (names : List JobId) → among gone names ≡ false → names_but gone names ≡ names
names_but-other gone [] apart = refl
names_but-other gone (first ∷ names) apart =
    let parts = or_parts (same_name gone first) (among gone names) apart in
    rw (parts.0, names_but-other gone names parts.1)

-- who is there stays there, whoever comes
pub among-stays : (name : JobId) (names : List JobId) (more : Option JobId) → among name names ≡ true → among name (with_last names more) ≡ true
among-stays name names None there = there
among-stays name [] (Some other) there = cc
among-stays name (first ∷ names) (Some other) there = by_first (same_name name first) there (among-stays name names (Some other))
  where
    by_first : (test : Bool) → (test || among name names) ≡ true → (among name names ≡ true → among name (names ++ other ∷ []) ≡ true) →
        (test || among name (names ++ other ∷ [])) ≡ true
    by_first true there rest = refl
    by_first false there rest = rest there

-- who comes is there
pub among-comes : (name : JobId) (names : List JobId) → among name (names ++ name ∷ []) ≡ true
among-comes name [] = rw (same_as_itself name)
among-comes name (first ∷ names) = by_first (same_name name first) (among-comes name names)
  where
    by_first : (test : Bool) → among name (names ++ name ∷ []) ≡ true → (test || among name (names ++ name ∷ [])) ≡ true
    by_first true rest = refl
    by_first false rest = rest

-- who is there stays there when another one goes
pub among-kept : (name gone : JobId) (names : List JobId) → among name names ≡ true → same_name name gone ≡ false → among name (names_but gone names) ≡ true
among-kept name gone [] there apart = cc
among-kept name gone (first ∷ names) there apart = by_tests (same_name gone first) refl (same_name name first) refl there (among-kept name gone names)
  where
    by_tests : (dropped : Bool) → same_name gone first ≡ dropped → (here : Bool) → same_name name first ≡ here → (here || among name names) ≡ true →
        (among name names ≡ true → same_name name gone ≡ false → among name (names_but gone names) ≡ true) →
        among name (cond (not dropped) (first ∷ names_but gone names) (names_but gone names)) ≡ true
    by_tests false at_gone true at_name there rest = rw at_name
    by_tests false at_gone false at_name there rest = rw (at_name, rest there apart)
    by_tests true at_gone false at_name there rest = rest there apart
    by_tests true at_gone true at_name there rest =
        let one : name ≡ gone = one_name name first at_name ∙ sym (one_name gone first at_gone) in
        let same : same_name name gone ≡ true = rw (one, same_as_itself gone) in
        cc

-- the number of the first name, which tells lists of names apart
abbrev pub first_number : List JobId → ℕ
first_number [] = 0
first_number (name ∷ names) = name.number

-- a number that is told is the one
pub number_told : (queue : ℕ) (told : Option ℕ) → is_number queue told ≡ true → told ≡ Some queue
number_told queue None same = cc
number_told queue (Some other) same = let one : queue ≡ other = eqb-true queue other same in ap Some (sym one)
