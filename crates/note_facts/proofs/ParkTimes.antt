-- How often a job stands among the parked jobs of a queue: once if it is parked there, else never.
use Rattle.std.proofs.Common.{◌≡◌, ℕ, ◌+◌, ◌⊎◌, inl, inr, Bool, true, false, List, [], ◌∷◌, ◌++◌, length, refl, sym, ◌∙◌, ap, arith, cond, subst, suc}
use Rattle.std.specs.Prelude.{Option, Some, None, not, unwrap_or, nat_lt, ◌==◌, ◌||◌}
use Rattle.std.proofs.lemmas.Bool.{cases_eq, lt-ltb, ne_eqb}
use Rattle.std.proofs.lemmas.List.Filters.{length-filter_both}
use Rattle.base_words.specs.declared.names.JobId.{JobId}
use Rattle.base_words.specs.declared.note.Note.{Note}
use Rattle.base_words.specs.declared.note.Note.TheVariants.{Woken, Park}
use Rattle.base_words.specs.Journal.{Journal, with_last}
use Rattle.base_words.specs.Names.{same_name, is_number, among, names_but, names_like}
use Rattle.base_words.specs.Parks.{ends_parks, is_parked, is_parked_in, parked}
use Rattle.base_words.specs.Work.{queue_of, number_if}
use Rattle.base_words.proofs.NameLemmas.{one_name, same_as_itself}
use Rattle.note_facts.specs.Parks.{park_of, stays_parked, is_same_queue}

-- how often a name stands among others
abbrev pub times : JobId → List JobId → ℕ
times name names = length (names_like (Some name) names)

times-append : (name other : JobId) (names : List JobId) → times name (names ++ other ∷ []) ≡ times name names + number_if (same_name name other)
times-append name other [] = by_test (same_name name other)
  where
    by_test : (test : Bool) → length (cond test (other ∷ []) []) ≡ 0 + number_if test
    by_test true = refl
    by_test false = refl
times-append name other (first ∷ names) = by_test (same_name name first) (times-append name other names)
  where
    by_test : (test : Bool) → times name (names ++ other ∷ []) ≡ times name names + number_if (same_name name other) →
        length (cond test (first ∷ names_like (Some name) (names ++ other ∷ [])) (names_like (Some name) (names ++ other ∷ []))) ≡
        length (cond test (first ∷ names_like (Some name) names) (names_like (Some name) names)) + number_if (same_name name other)
    by_test true rest = omega (arith, rest)
    by_test false rest = rest

-- who goes stands there no more
times-gone : (name : JobId) (names : List JobId) → times name (names_but name names) ≡ 0
times-gone name [] = refl
times-gone name (first ∷ names) = by_test (same_name name first) refl (times-gone name names)
  where
    by_test : (test : Bool) → same_name name first ≡ test → times name (names_but name names) ≡ 0 →
        times name (cond (not test) (first ∷ names_but name names) (names_but name names)) ≡ 0
    by_test true at rest = rest
    by_test false at rest = rw at rest

-- and the others stand there as before
times-others : (name gone : JobId) (names : List JobId) → same_name name gone ≡ false → times name (names_but gone names) ≡ times name names
times-others name gone [] apart = refl
times-others name gone (first ∷ names) apart = by_tests (same_name gone first) refl (same_name name first) refl (times-others name gone names apart)
  where
    by_tests : (at_gone : Bool) → same_name gone first ≡ at_gone → (at_name : Bool) → same_name name first ≡ at_name →
        times name (names_but gone names) ≡ times name names →
        times name (cond (not at_gone) (first ∷ names_but gone names) (names_but gone names)) ≡
        length (cond at_name (first ∷ names_like (Some name) names) (names_like (Some name) names))
    by_tests false gone_is true name_is rest = rw name_is (ap suc rest)
    by_tests false gone_is false name_is rest = rw name_is rest
    by_tests true gone_is false name_is rest = rest
    by_tests true gone_is true name_is rest =
        let one : name ≡ gone = one_name name first name_is ∙ sym (one_name gone first gone_is) in
        let same : same_name name gone ≡ true = rw (one, same_as_itself gone) in
        cc

-- one more may come behind the others
times-with_last : (name other : JobId) (names : List JobId) (test : Bool) →
    times name (with_last names (cond test (Some other) None)) ≡ times name names + number_if (cond test (same_name name other) false)
times-with_last name other names true = times-append name other names
times-with_last name other names false = omega arith

-- each of the names is this one, or not
pub times-but : (name : JobId) (names : List JobId) → length (names_but name names) + times name names ≡ length names
times-but name names = length-filter_both (λ other. not (same_name name other)) (λ other. same_name name other) (λ other. twice (same_name name other)) names
  where
    twice : (test : Bool) → test ≡ not (not test)
    twice true = refl
    twice false = refl

pub among-times : (name : JobId) (names : List JobId) → among name names ≡ nat_lt 0 (times name names)
among-times name [] = refl
among-times name (first ∷ names) = by_test (same_name name first) (among-times name names)
  where
    by_test : (test : Bool) → among name names ≡ nat_lt 0 (times name names) →
        (test || among name names) ≡ nat_lt 0 (length (cond test (first ∷ names_like (Some name) names) (names_like (Some name) names)))
    by_test true rest = sym (lt-ltb 0 (length (first ∷ names_like (Some name) names)) (omega arith))
    by_test false rest = rest

pub stays-same : {T : Type 0} (note : Note T) → ((queue : ℕ) → ends_parks queue note ≡ false) → (park : Option ℕ) → stays_parked note park ≡ park
stays-same note none None = refl
stays-same note none (Some queue) = rw (none queue) refl

-- it stands there once if it is parked there, else never
abbrev pub TimesAre : ℕ → JobId → List JobId → Option ℕ → Type 0
TimesAre queue name names park = times name names ≡ number_if (is_number queue park)

module _ {T : Type 0} (queue : ℕ) (name : JobId) where
  -- a note that ends all parks of a queue ends that of this job
  ended : (note : Note T) (names : List JobId) (park : Option ℕ) → TimesAre queue name names park →
      TimesAre queue name (cond (ends_parks queue note) [] names) (stays_parked note park)
  ended note names None is = by_test (ends_parks queue note)
    where
      by_test : (test : Bool) → TimesAre queue name (cond test [] names) None
      by_test true = refl
      by_test false = is
  ended note names (Some other) is = by_queue (cases_eq queue other)
    where
      by_both : (here there : Bool) → (queue == other) ≡ false → TimesAre queue name (cond here [] names) (cond there None (Some other))
      by_both true true apart = refl
      by_both true false apart = rw apart refl
      by_both false true apart = is ∙ ap number_if apart
      by_both false false apart = is

      by_one : (here : Bool) → TimesAre queue name (cond here [] names) (cond here None (Some other))
      by_one true = refl
      by_one false = is

      by_queue : (queue ≡ other) ⊎ (queue ≡ other → ⊥) → TimesAre queue name (cond (ends_parks queue note) [] names) (cond (ends_parks other note) None (Some other))
      by_queue (inl same) =
          subst (λ (it : ℕ). TimesAre queue name (cond (ends_parks it note) [] names) (cond (ends_parks other note) None (Some other))) (sym same) (by_one (ends_parks other note))
      by_queue (inr apart) = by_both (ends_parks queue note) (ends_parks other note) (ne_eqb queue other apart)

  pub park_times : (journal : Journal T) → TimesAre queue name (parked queue journal) (park_of name journal)
  park_times [] = refl
  park_times (Park other time ∷ before) = by_same (same_name name other) refl (park_times before)
    where
      by_queue : (test : Bool) → same_name name other ≡ true →
          times name (with_last (names_but other (parked queue before)) (cond test (Some other) None)) ≡ number_if test
      by_queue test same =
          let gone : times name (names_but other (parked queue before)) ≡ 0 =
          subst (λ (it : JobId). times name (names_but it (parked queue before)) ≡ 0) (one_name name other same) (times-gone name (parked queue before)) in
          times-with_last name other (names_but other (parked queue before)) test ∙ by_test test same gone
        where
          by_test : (test : Bool) → same_name name other ≡ true → times name (names_but other (parked queue before)) ≡ 0 →
              times name (names_but other (parked queue before)) + number_if (cond test (same_name name other) false) ≡ number_if test
          by_test true same gone = rw (same, gone) refl
          by_test false same gone = rw gone refl

      by_apart : (test : Bool) → same_name name other ≡ false →
          times name (with_last (names_but other (parked queue before)) (cond test (Some other) None)) ≡ times name (parked queue before)
      by_apart true apart =
          times-with_last name other (names_but other (parked queue before)) true ∙
          rw (apart, times-others name other (parked queue before) apart) (omega arith)
      by_apart false apart = times-others name other (parked queue before) apart

      by_same : (test : Bool) → same_name name other ≡ test → TimesAre queue name (parked queue before) (park_of name before) →
          TimesAre queue name (with_last (names_but other (parked queue before)) (cond (is_number queue (queue_of other before)) (Some other) None))
          (unwrap_or (cond test (Some (queue_of other before)) None) (stays_parked {T = T} (Park other time) (park_of name before)))
      by_same true same rest = by_queue (is_number queue (queue_of other before)) same
      by_same false apart rest =
          by_apart (is_number queue (queue_of other before)) apart ∙
          (rest ∙ ap (λ park. number_if (is_number queue park)) (sym (stays-same {T = T} (Park other time) (λ queue. refl) (park_of name before))))
  park_times (Woken other ∷ before) = by_same (same_name name other) refl (park_times before)
    where
      by_same : (test : Bool) → same_name name other ≡ test → TimesAre queue name (parked queue before) (park_of name before) →
          TimesAre queue name (names_but other (parked queue before)) (unwrap_or (cond test (Some None) None) (stays_parked {T = T} (Woken other) (park_of name before)))
      by_same true same rest =
          subst (λ (it : JobId). times name (names_but it (parked queue before)) ≡ 0) (one_name name other same) (times-gone name (parked queue before))
      by_same false apart rest =
          times-others name other (parked queue before) apart ∙
          (rest ∙ ap (λ park. number_if (is_number queue park)) (sym (stays-same {T = T} (Woken other) (λ queue. refl) (park_of name before))))
  park_times (note ∷ before) = ended note (parked queue before) (park_of name before) (park_times before)

  -- a job is among the parked jobs of the queue in which it is parked
  pub parked_there : (journal : Journal T) → among name (parked queue journal) ≡ is_number queue (park_of name journal)
  parked_there journal = among-times name (parked queue journal) ∙ (ap (λ count. nat_lt 0 count) (park_times journal) ∙ as_test (is_number queue (park_of name journal)))
    where
      as_test : (test : Bool) → nat_lt 0 (number_if test) ≡ test
      as_test true = refl
      as_test false = refl

-- whether a job is parked
pub is_parked-same : {T : Type 0} (name : JobId) (journal : Journal T) → is_parked name journal ≡ is_same_queue (queue_of name journal) (park_of name journal)
is_parked-same name journal = by_queue (queue_of name journal)
  where
    by_queue : (queue : Option ℕ) → is_parked_in queue name journal ≡ is_same_queue queue (park_of name journal)
    by_queue None = refl
    by_queue (Some queue) = parked_there queue name journal
