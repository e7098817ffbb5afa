-- The jobs that entered a queue and haven't left it: no more than its counts say, and each that hasn't ended is among them.
use Rattle.judge_fronts.proofs.Names.{among, among-comes, among-kept, among-stays, ap, arith, Assembly, Bool, cond, EachNote, entered_count, eq-eqb, false, is_name, is_number, is_told, JobId, Journal, left_count, length, length-with_last_if, List}
use Rattle.judge_fronts.proofs.Names.{name_ended, names_but, names_but_for, None, not, Note, number_if, number_told, one_name, Option, or_else, or_parts, OutcomesRight, queue_entered, queue_of, refl, same_name, Some, suc, sym, true, true≢false}
use Rattle.judge_fronts.proofs.Names.{with_last, ℕ, [], ◌+◌, ◌==◌, ◌||◌, ◌∙◌, ◌∷◌, ◌≡◌, ◌≤◌}
use Rattle.base_words.specs.declared.note.Note.TheVariants.{Took, Done, Returned}

-- the job that a note brings into the queue, and the one that it takes out
abbrev coming : ℕ → Note ℕ → Option JobId
coming queue (Took name into) = cond (queue == into) (Some name) None
coming queue _ = None

abbrev going : ℕ → Note ℕ → Journal ℕ → Option JobId
going queue (Done name time value) before = cond (is_number queue (queue_of name before)) (Some name) None
going queue (Returned name reason) before = cond (is_number queue (queue_of name before)) (Some name) None
going queue _ before = None

abbrev pub inside : ℕ → Journal ℕ → List JobId
inside queue [] = []
inside queue (note ∷ before) = with_last (names_but_for (going queue note before) (inside queue before)) (coming queue note)

-- one that doesn't go stays
kept : (name : JobId) (gone : Option JobId) (names : List JobId) → among name names ≡ true → is_name name gone ≡ false → among name (names_but_for gone names) ≡ true
kept name None names there stays = there
kept name (Some gone) names there stays = among-kept name gone names there stays

-- who goes has ended
not_going : (queue : ℕ) (name : JobId) (note : Note ℕ) (before : Journal ℕ) → is_name name (name_ended note) ≡ false → is_name name (going queue note before) ≡ false
not_going queue name (Done other time value) before apart = by_test (is_number queue (queue_of other before))
  where
    by_test : (test : Bool) → is_name name (cond test (Some other) None) ≡ false
    by_test true = apart
    by_test false = refl
not_going queue name (Returned other reason) before apart = by_test (is_number queue (queue_of other before))
  where
    by_test : (test : Bool) → is_name name (cond test (Some other) None) ≡ false
    by_test true = apart
    by_test false = refl
not_going queue name _ before apart = refl

-- who enters comes
comes : (queue : ℕ) (name : JobId) (note : Note ℕ) → queue_entered name note ≡ Some queue → coming queue note ≡ Some name
comes queue name (Took other into) enters = by_test (same_name name other) refl enters
  where
    by_test : (test : Bool) → same_name name other ≡ test → cond test (Some into) None ≡ Some queue → cond (queue == into) (Some other) None ≡ Some name
    by_test false same enters = cc
    by_test true same enters =
        let one : queue ≡ into = cc in
        rw (eq-eqb queue into one) (ap Some (sym (one_name name other same)))
comes queue name _ enters = cc

-- who entered a queue and hasn't ended is inside
pub is_inside : (queue : ℕ) (name : JobId) (journal : Journal ℕ) → queue_of name journal ≡ Some queue → is_told name_ended name journal ≡ false → among name (inside queue journal) ≡ true
is_inside queue name [] entered going_on = cc
is_inside queue name (note ∷ before) entered going_on =
    by_entered (queue_entered name note) refl entered (λ was. is_inside queue name before was parts.1)
  where
    parts : (is_name name (name_ended note) ≡ false) × (is_told name_ended name before ≡ false)
    parts = or_parts (is_name name (name_ended note)) (is_told name_ended name before) going_on

    by_entered : (into : Option ℕ) → queue_entered name note ≡ into → or_else into (queue_of name before) ≡ Some queue →
        (queue_of name before ≡ Some queue → among name (inside queue before) ≡ true) → among name (inside queue (note ∷ before)) ≡ true
    by_entered None now was rest =
        among-stays name (names_but_for (going queue note before) (inside queue before)) (coming queue note)
        (kept name (going queue note before) (inside queue before) (rest was) (not_going queue name note before parts.0))
    by_entered (Some into) now is rest =
        let comes_in : coming queue note ≡ Some name = comes queue name note (now ∙ is) in
        rw comes_in (among-comes name (names_but_for (going queue note before) (inside queue before)))

no_more : (name : JobId) (names : List JobId) → length (names_but name names) ≤ length names
no_more name [] = omega arith
no_more name (first ∷ names) = by_test (same_name name first) (no_more name names)
  where
    by_test : (test : Bool) → length (names_but name names) ≤ length names → length (cond (not test) (first ∷ names_but name names) (names_but name names)) ≤ suc (length names)
    by_test true few = omega (arith, few)
    by_test false few = omega (arith, few)

-- without one that is there they are fewer
fewer : (name : JobId) (names : List JobId) → among name names ≡ true → length (names_but name names) + 1 ≤ length names
fewer name [] there = absurd (true≢false (sym there))
fewer name (first ∷ names) there = by_test (same_name name first) there (fewer name names)
  where
    by_test : (test : Bool) → (test || among name names) ≡ true → (among name names ≡ true → length (names_but name names) + 1 ≤ length names) →
        length (cond (not test) (first ∷ names_but name names) (names_but name names)) + 1 ≤ suc (length names)
    by_test true there rest = let few = no_more name names in omega (arith, few)
    by_test false there rest = let few = rest there in omega (arith, few)

module _ (assembly : Assembly ℕ) (queue : ℕ) where
  -- what left and what is inside entered
  pub counted : (journal : Journal ℕ) → EachNote (OutcomesRight assembly) journal → left_count queue journal + length (inside queue journal) ≤ entered_count queue journal
  counted [] right = omega arith
  counted (note ∷ before) right = by_note note right.0 (counted before right.1)
    where
      leaves : (name : JobId) → is_told name_ended name before ≡ false → (test : Bool) → is_number queue (queue_of name before) ≡ test →
          left_count queue before + length (inside queue before) ≤ entered_count queue before →
          (left_count queue before + number_if test) + length (names_but_for (cond test (Some name) None) (inside queue before)) ≤ entered_count queue before + 0
      leaves name new false other few = omega (arith, few)
      leaves name new true here few =
          let less = fewer name (inside queue before) (is_inside queue name before (number_told queue (queue_of name before) here) new) in
          omega (arith, few, less)

      by_note : (note : Note ℕ) → OutcomesRight assembly note before → left_count queue before + length (inside queue before) ≤ entered_count queue before →
          left_count queue (note ∷ before) + length (inside queue (note ∷ before)) ≤ entered_count queue (note ∷ before)
      by_note (Took name into) law few = let more = length-with_last_if (inside queue before) name (queue == into) in omega (arith, few, more)
      by_note (Done name time value) law few = leaves name law.1 (is_number queue (queue_of name before)) refl few
      by_note (Returned name reason) law few = leaves name law.1 (is_number queue (queue_of name before)) refl few
      by_note _ law few = omega (arith, few)
