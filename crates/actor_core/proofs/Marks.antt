-- The marks of jobs that wait: a note changes those of the job that it tells of.
use Rattle.actor_core.proofs.AgreementNames.{All-append, All-cons, All-head, All-nil, All-tail, AreMarked, ChangesLine, Distinct, JobId, Journal, Line, List, Marks, Note, Parks, QueuesView, [], among, ap, arith, awake, false, false_from_ne_true}
use Rattle.actor_core.proofs.AgreementNames.{get_or, length, map, marks_told, names_but, names_but-first, names_of, names_parked, one_name, refl, same_as_itself, same_name, subst, sym, true, true≢false, waiting_of, ℕ, ◌++◌, ◌<◌, ◌∙◌, ◌∷◌, ◌≡◌}
use Rattle.actor_core.proofs.Places.{each_line}
use Rattle.std.proofs.lemmas.Bool.{or_right}

-- the marks of a job that enters
abbrev pub unmarked : Marks
unmarked = record { started = false; woken = false }

-- a name that isn't among some is none of them
pub other_way : (name other : JobId) → same_name name other ≡ false → same_name other name ≡ false
other_way name other apart =
    false_from_ne_true _ (λ same. true≢false (sym (subst (λ one. same_name name one ≡ true) (sym (one_name other name same)) (same_as_itself name)) ∙ apart))

-- whoever waits is another than one who isn't among them
pub among-place : {J : Type 0} (name : JobId) (waiting : Line J) → among name (names_of waiting) ≡ false →
    (place : ℕ) (default : JobId × Marks × J) → place < length waiting → same_name name (get_or waiting place default).0 ≡ false
among-place name [] apart place default within = absurd (omega arith)
among-place name (entry ∷ rest) apart place default within = grind (arith, among-place name rest)

-- the first of names is among them, and who is among the others is
first_among : (name : JobId) (rest : List JobId) → among name (name ∷ rest) ≡ true
first_among name rest = rw (same_as_itself name) refl

later_among : (name first : JobId) (rest : List JobId) → among name rest ≡ true → among name (first ∷ rest) ≡ true
later_among name first rest there = or_right (same_name name first) (among name rest) there

-- who stands between others is among them
pub among-middle : {J : Type 0} (front : Line J) (entry : JobId × Marks × J) (rest : Line J) → among entry.0 (names_of (front ++ entry ∷ rest)) ≡ true
among-middle [] entry rest = first_among entry.0 (names_of rest)
among-middle (first ∷ front) entry rest = later_among entry.0 first.0 (names_of (front ++ entry ∷ rest)) (among-middle front entry rest)

pub parked-middle : {J : Type 0} (front : Parks J) (entry : JobId × J) (rest : Parks J) → among entry.0 (names_parked (front ++ entry ∷ rest)) ≡ true
parked-middle [] entry rest = first_among entry.0 (names_parked rest)
parked-middle (first ∷ front) entry rest = later_among entry.0 first.0 (names_parked (front ++ entry ∷ rest)) (parked-middle front entry rest)

-- the first of distinct names is another than one that stands behind it
not_middle : {J : Type 0} (first : JobId × Marks × J) (front : Line J) (entry : JobId × Marks × J) (rest : Line J) → among first.0 (names_of (front ++ entry ∷ rest)) ≡ false → same_name first.0 entry.0 ≡ false
not_middle first front entry rest apart =
    false_from_ne_true _ (λ same. true≢false (sym (among-middle front entry rest) ∙ subst (λ name. among name (names_of (front ++ entry ∷ rest)) ≡ false) (one_name first.0 entry.0 same) apart))

-- and who is parked
pub parked-place : {J : Type 0} (name : JobId) (parks : Parks J) → among name (names_parked parks) ≡ false →
    (place : ℕ) (default : JobId × J) → place < length parks → same_name name (get_or parks place default).0 ≡ false
parked-place name [] apart place default within = absurd (omega arith)
parked-place name (entry ∷ rest) apart place default within = grind (arith, parked-place name rest)

module _ {J T : Type 0} where
  -- a job in a line has the marks that the journal tells
  abbrev pub is_marked : Journal T → JobId × Marks × J → Type 0
  is_marked journal entry = entry.1 ≡ marks_told entry.0 journal

  -- so they stay, as one more that is marked so enters a line
  pub marks_longer : (journal : Journal T) {old queues : QueuesView J} {queue : ℕ} (name : JobId) (marks : Marks) (job : J) → marks ≡ marks_told name journal →
      ChangesLine old queues queue (waiting_of queue old ++ (name, marks, job) ∷ []) → ((other : ℕ) → AreMarked journal (waiting_of other old)) → (other : ℕ) → AreMarked journal (waiting_of other queues)
  marks_longer journal {old = old} {queue = queue} name marks job is changes were = each_line (λ at. AreMarked journal) changes
      (one_more journal (waiting_of queue old) name marks job is (were queue)) were
    where
      one_more : (journal : Journal T) (waiting : Line J) (name : JobId) (marks : Marks) (job : J) → marks ≡ marks_told name journal → AreMarked journal waiting → AreMarked journal (waiting ++ (name, marks, job) ∷ [])
      one_more journal waiting name marks job is were =
          All-append (is_marked journal) waiting ((name, marks, job) ∷ []) were (All-cons (is_marked journal) (name, marks, job) [] is (All-nil (is_marked journal)))

  module _ (note : Note T) (before : Journal T) where
    -- a note that tells of no job's marks leaves them
    pub marks-stay : ((other : JobId) → marks_told other (note ∷ before) ≡ marks_told other before) → (waiting : Line J) → AreMarked before waiting → AreMarked (note ∷ before) waiting
    marks-stay same waiting marked place default within = marked place default within ∙ sym (same (get_or waiting place default).0)

    -- one that tells of one job leaves those of the others
    module _ (name : JobId) (same : (other : JobId) → same_name other name ≡ false → marks_told other (note ∷ before) ≡ marks_told other before) where
      pub marks-elsewhere : (waiting : Line J) → among name (names_of waiting) ≡ false → AreMarked before waiting → AreMarked (note ∷ before) waiting
      marks-elsewhere waiting apart marked place default within =
          marked place default within
          ∙ sym (same (get_or waiting place default).0 (other_way name (get_or waiting place default).0 (among-place name waiting apart place default within)))

      -- also where that job stands among them, if it has its marks from then on
      pub marks-middle : (was now : Marks) (job : J) (rest : Line J) → now ≡ marks_told name (note ∷ before) → (front : Line J) → Distinct (names_of (front ++ (name, was, job) ∷ rest)) →
          AreMarked before (front ++ (name, was, job) ∷ rest) → AreMarked (note ∷ before) (front ++ (name, now, job) ∷ rest)
      marks-middle was now job rest told [] distinct marked =
          All-cons (is_marked (note ∷ before)) (name, now, job) rest told
          (marks-elsewhere rest distinct.0 (All-tail (is_marked before) (name, was, job) rest marked))
      marks-middle was now job rest told (first ∷ front) distinct marked =
          All-cons (is_marked (note ∷ before)) first (front ++ (name, now, job) ∷ rest)
          (All-head (is_marked before) first (front ++ (name, was, job) ∷ rest) marked ∙ sym (same first.0 (not_middle first front (name, was, job) rest distinct.0)))
          (marks-middle was now job rest told front distinct.1 (All-tail (is_marked before) first (front ++ (name, was, job) ∷ rest) marked))

  -- parked jobs whose parks end have the marks of a job that started and whose wake isn't kept
  pub marks_awake : (journal : Journal T) (parks : Parks J) → ((name : JobId) → among name (names_parked parks) ≡ true → record { started = true; woken = false } ≡ marks_told name journal) →
      AreMarked journal (map awake parks)
  marks_awake journal [] told = All-nil (is_marked journal)
  marks_awake journal (first ∷ parks) told =
      All-cons (is_marked journal) (awake first) (map awake parks) (told first.0 (first_among first.0 (names_parked parks)))
      (marks_awake journal parks (λ name there. told name (later_among name first.0 (names_parked parks) there)))

-- of distinct names one goes, and the others stay
pub names_but-middle : {J : Type 0} (front : Parks J) (entry : JobId × J) (rest : Parks J) → Distinct (names_parked (front ++ entry ∷ rest)) →
    names_but entry.0 (names_parked (front ++ entry ∷ rest)) ≡ names_parked (front ++ rest)
names_but-middle [] entry rest distinct = names_but-first entry.0 (names_parked rest) distinct
names_but-middle (first ∷ front) entry rest distinct =
    let apart : same_name entry.0 first.0 ≡ false = other_way first.0 entry.0 (false_from_ne_true _ (λ same. true≢false (sym (parked-middle front entry rest) ∙ subst (λ name. among name (names_parked (front ++ entry ∷ rest)) ≡ false) (one_name first.0 entry.0 same) distinct.0))) in
    rw apart (ap (λ names. first.0 ∷ names) (names_but-middle front entry rest distinct.1))

-- the names of parked jobs whose parks end
pub names-awake : {J : Type 0} (parks : Parks J) → names_of (map awake parks) ≡ names_parked parks
names-awake [] = refl
names-awake (first ∷ parks) = ap (λ names. first.0 ∷ names) (names-awake parks)
