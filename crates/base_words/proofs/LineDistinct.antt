-- In a lawful journal no job stands twice in a line, nor twice among the parked.
use Rattle.base_words.proofs.Words.{ap, Bool, cond, EachNote, ends_parks, false, false_from_ne_true, inl, inr, JobId, Journal, line, List, MayFollow, MayStand, name_joining, name_leaving, name_parked, name_parking, name_woken, names_but}
use Rattle.base_words.proofs.Words.{names_but_for, names_like, None, not, Note, Option, or_parts, parked, refl, same_name, Some, still_parked, sym, Terms, true, true≢false, unparked, with_all, with_last, ℕ, [], ◌++◌, ◌||◌, ◌∙◌, ◌∷◌, ◌≡◌}
pub use Rattle.base_words.proofs.NameLemmas.{names_but-other}
use Rattle.base_words.proofs.NameLemmas.{among, one_name, same_as_itself, among-with_last, among-with_all, among-names_but_for, among-names_like}
use Rattle.base_words.proofs.Parks.{among-still_parked, among-unparked}
use Rattle.base_words.proofs.Known.{Known, known_of, joining_new, parking_new}

-- no name stands twice
abbrev pub Distinct : List JobId → Type 0
Distinct [] = Unit {0}
Distinct (first ∷ rest) = (among first rest ≡ false) × Distinct rest

-- the first goes, and the rest stays as it was
pub names_but-first : (name : JobId) (others : List JobId) → Distinct (name ∷ others) → names_but name (name ∷ others) ≡ others
names_but-first name others distinct = rw (same_as_itself name, names_but-other name others distinct.0)

-- the others of a line are other names than its first
pub not_first : (first other : JobId) (rest : List JobId) → Distinct (first ∷ rest) → among other rest ≡ true → same_name other first ≡ false
not_first first other rest distinct there = false_from_ne_true _ not_same
  where
    not_same : same_name other first ≡ true → ⊥
    not_same same = true≢false (sym there ∙ ap (λ name. among name rest) (one_name other first same) ∙ distinct.0)

-- fewer names are distinct too
distinct-names_but : (gone : JobId) (names : List JobId) → Distinct names → Distinct (names_but gone names)
distinct-names_but gone [] distinct = tt
distinct-names_but gone (first ∷ names) distinct = by_test (same_name gone first) (distinct-names_but gone names distinct.1)
  where
    still_apart : among first (names_but gone names) ≡ false
    still_apart = false_from_ne_true _ (λ there. true≢false (sym (among-names_but_for first (Some gone) names there).0 ∙ distinct.0))

    by_test : (same : Bool) → Distinct (names_but gone names) → Distinct (cond (not same) (first ∷ names_but gone names) (names_but gone names))
    by_test true rest = rest
    by_test false rest = (still_apart, rest)

-- also where none goes
distinct-names_but_for : (gone : Option JobId) (names : List JobId) → Distinct names → Distinct (names_but_for gone names)
distinct-names_but_for None names distinct = distinct
distinct-names_but_for (Some gone) names distinct = distinct-names_but gone names distinct

-- and with one more that was not there
distinct-one_more : (names : List JobId) (name : JobId) → Distinct names → among name names ≡ false → Distinct (names ++ name ∷ [])
distinct-one_more [] name distinct apart = (refl, tt)
distinct-one_more (first ∷ names) name distinct apart =
    let parts = or_parts (same_name name first) (among name names) apart in
    (false_from_ne_true _ not_there, distinct-one_more names name distinct.1 parts.1)
  where
    not_there : among first (names ++ name ∷ []) ≡ true → ⊥
    not_there there =
        elim (among-with_last first names (Some name) there) [
          | inl was ↦ true≢false (sym was ∙ distinct.0)
          | inr same ↦
              let one : name ≡ first = cc in
              true≢false (sym (rw one (same_as_itself first)) ∙ (or_parts (same_name name first) (among name names) apart).0)
        ]

-- if one comes at all
distinct-with_last : (names : List JobId) (more : Option JobId) → Distinct names → ((name : JobId) → more ≡ Some name → among name names ≡ false) →
    Distinct (with_last names more)
distinct-with_last names None distinct apart = distinct
distinct-with_last names (Some name) distinct apart = distinct-one_more names name distinct (apart name refl)

-- and with several more that are distinct, and were not there
distinct-with_all : (names more : List JobId) → Distinct names → Distinct more → ((name : JobId) → among name more ≡ true → among name names ≡ false) → Distinct (with_all names more)
distinct-with_all names [] distinct more_distinct apart = distinct
distinct-with_all names (other ∷ more) distinct more_distinct apart = by_names names distinct apart
  where
    by_names : (names : List JobId) → Distinct names → ((name : JobId) → among name (other ∷ more) ≡ true → among name names ≡ false) → Distinct (names ++ other ∷ more)
    by_names [] distinct apart = more_distinct
    by_names (first ∷ names) distinct apart =
        (false_from_ne_true _ not_there, by_names names distinct.1 (λ name there. (or_parts (same_name name first) (among name names) (apart name there)).1))
      where
        not_there : among first (names ++ other ∷ more) ≡ true → ⊥
        not_there there =
            elim (among-with_all first names (other ∷ more) there) [
              | inl was ↦ true≢false (sym was ∙ distinct.0)
              | inr came ↦ true≢false (sym (same_as_itself first) ∙ (or_parts (same_name first first) (among first names) (apart first came)).0)
            ]

-- names like one are distinct, where all are
distinct-names_like : (which : Option JobId) (names : List JobId) → Distinct names → Distinct (names_like which names)
distinct-names_like None names distinct = tt
distinct-names_like (Some name) [] distinct = tt
distinct-names_like (Some name) (first ∷ names) distinct = by_test (same_name name first) (distinct-names_like (Some name) names distinct.1)
  where
    still_apart : among first (names_like (Some name) names) ≡ false
    still_apart = false_from_ne_true _ (λ there. true≢false (sym (among-names_like first (Some name) names there).0 ∙ distinct.0))

    by_test : (kept : Bool) → Distinct (names_like (Some name) names) → Distinct (cond kept (first ∷ names_like (Some name) names) (names_like (Some name) names))
    by_test true rest = (still_apart, rest)
    by_test false rest = rest

-- none is like one that isn't there
pub names_like-none : (name : JobId) (names : List JobId) → among name names ≡ false → names_like (Some name) names ≡ []
names_like-none name [] apart = refl
names_like-none name (first ∷ names) apart =
    let parts = or_parts (same_name name first) (among name names) apart in
    rw (parts.0, names_like-none name names parts.1)

-- of distinct names those like one that is there are that one
pub names_like-one : (name : JobId) (names : List JobId) → Distinct names → among name names ≡ true → names_like (Some name) names ≡ name ∷ []
names_like-one name [] distinct there = cc
names_like-one name (first ∷ names) distinct there = by_test (same_name name first) refl there (names_like-one name names distinct.1)
  where
    by_test : (test : Bool) → same_name name first ≡ test → (test || among name names) ≡ true → (among name names ≡ true → names_like (Some name) names ≡ name ∷ []) →
        cond test (first ∷ names_like (Some name) names) (names_like (Some name) names) ≡ name ∷ []
    by_test true same there rest =
        let one : name ≡ first = one_name name first same in
        let apart : among name names ≡ false = rw one distinct.0 in
        rw (names_like-none name names apart, one) refl
    by_test false apart there rest = rest there

-- who is still parked is distinct, where all were
distinct-still_parked : {T : Type 0} (queue : ℕ) (note : Note T) (names : List JobId) → Distinct names → Distinct (still_parked queue note names)
distinct-still_parked queue note names distinct = by_test (ends_parks queue note)
  where
    by_test : (test : Bool) → Distinct (cond test [] (names_but_for (name_woken note) names))
    by_test true = tt
    by_test false = distinct-names_but_for (name_woken note) names distinct

-- and so is whose park is ended
distinct-unparked : {T : Type 0} (queue : ℕ) (note : Note T) (names : List JobId) → Distinct names → Distinct (unparked queue note names)
distinct-unparked queue note names distinct = by_test (ends_parks queue note)
  where
    by_test : (test : Bool) → Distinct (cond test names (names_like (name_woken note) names))
    by_test true = distinct
    by_test false = distinct-names_like (name_woken note) names distinct

-- no name stands twice in a line, nor twice among the parked
pub record Apart {T : Type 0} (journal : Journal T) : Type 0 where
  pub distinct : (queue : ℕ) → Distinct (line queue journal)
  pub parked_distinct : (queue : ℕ) → Distinct (parked queue journal)

module _ {T : Type 0} (terms : Terms) (before : Journal T) (known : Known before) (apart : Apart before) where
  -- who comes to a line didn't wait in it
  not_there : (queue : ℕ) (name : JobId) (note : Note T) → MayFollow terms note before → name_joining queue note before ≡ Some name →
      among name (line queue before) ≡ true → ⊥
  not_there queue name note law came there =
      known.not_waiting queue name (joining_new terms queue name note before law known came (known.line_inside queue name there)).0 there

  -- nor did who was parked until now, and it doesn't come to the tail either
  not_there_parked : (queue : ℕ) (name : JobId) (note : Note T) → MayFollow terms note before → among name (unparked queue note (parked queue before)) ≡ true →
      among name (with_last (names_but_for (name_leaving note) (line queue before)) (name_joining queue note before)) ≡ true → ⊥
  not_there_parked queue name note law woken there =
      let was_parked = among-unparked queue note (parked queue before) name woken in
      elim (among-with_last name (names_but_for (name_leaving note) (line queue before)) (name_joining queue note before) there) [
        | inl was ↦ known.waiting_not_parked queue name (among-names_but_for name (name_leaving note) (line queue before) was).0 was_parked
        | inr came ↦ known.out_not_parked queue name (joining_new terms queue name note before law known came (known.parked_inside queue name was_parked)).0 was_parked
      ]

  -- each note keeps both
  stays_apart : (note : Note T) → MayFollow terms note before → Apart (note ∷ before)
  stays_apart note law = record {
    distinct = λ queue.
        distinct-with_all (with_last (names_but_for (name_leaving note) (line queue before)) (name_joining queue note before)) (unparked queue note (parked queue before))
        (
        distinct-with_last (names_but_for (name_leaving note) (line queue before)) (name_joining queue note before)
        (distinct-names_but_for (name_leaving note) (line queue before) (apart.distinct queue))
        (λ name came. false_from_ne_true _ (λ there. not_there queue name note law came (among-names_but_for name (name_leaving note) (line queue before) there).0))
        )
        (distinct-unparked queue note (parked queue before) (apart.parked_distinct queue))
        (λ name woken. false_from_ne_true _ (λ there. not_there_parked queue name note law woken there));
    parked_distinct = λ queue.
        distinct-with_last (names_but_for (name_parked note) (still_parked queue note (parked queue before))) (name_parking queue note before)
        (distinct-names_but_for (name_parked note) (still_parked queue note (parked queue before)) (distinct-still_parked queue note (parked queue before) (apart.parked_distinct queue)))
        (λ name came. false_from_ne_true _ (λ there.
        known.out_not_parked queue name (parking_new terms queue name note before law came).0 (among-still_parked queue note (parked queue before) name (among-names_but_for name (name_parked note) (still_parked queue note (parked queue before)) there).0).was));
  }

-- they hold of each lawful journal
pub apart_of : {T : Type 0} (terms : Terms) (journal : Journal T) → EachNote (MayStand terms) journal → Apart journal
apart_of terms [] notes = record { distinct = λ queue. tt; parked_distinct = λ queue. tt }
apart_of terms (note ∷ before) notes =
    stays_apart terms before (known_of terms before notes.1) (apart_of terms before notes.1) note notes.0.may_follow
