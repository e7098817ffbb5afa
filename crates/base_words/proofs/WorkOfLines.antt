-- A queue has work exactly where its line is not empty or its job is out.
use Rattle.base_words.proofs.Words.{arith, Bool, EachNote, entered_count, eq-eqb, false, has_work, is_number, IsRightPick, JobId, jobs_out, Journal, KeyAtMost, le-ltb, left_count, length, line, List, lt-ltb, ltb-false, ltb-true, MayStand}
use Rattle.base_words.proofs.Words.{nat_lt, None, number_if, parked, queue_in_turn, queue_of, queue_out, refl, Some, sym, Terms, true, true≢false, virtual_runtime, ℕ, [], ◌+◌, ◌∙◌, ◌∷◌, ◌≡◌}
use Rattle.base_words.proofs.Counts.{counts_agree, queue_out-alone}

-- there is more than what left or is parked where something is inside besides
more_than : (left entered inside : ℕ) → entered ≡ left + inside → nat_lt left entered ≡ nat_lt 0 inside
more_than left entered inside counted = by_test (nat_lt 0 inside) refl
  where
    by_test : (test : Bool) → nat_lt 0 inside ≡ test → nat_lt left entered ≡ test
    by_test true some = lt-ltb left entered (omega (arith, ltb-true 0 inside some))
    by_test false none = le-ltb left entered (omega (arith, ltb-false 0 inside none))

-- names that are some have a first
first_of_some : (names : List JobId) → nat_lt 0 (length names) ≡ true → (name : JobId) × (others : List JobId) × (names ≡ name ∷ others)
first_of_some [] some = absurd (true≢false (sym some))
first_of_some (name ∷ others) some = (name, others, refl)

module _ {T : Type 0} (terms : Terms) (queue : ℕ) (journal : Journal T) (notes : EachNote (MayStand terms) journal) where
  -- a queue has work as many wait in its line or are out of it
  pub has_work-line : has_work queue journal ≡ nat_lt 0 (length (line queue journal) + number_if (is_number queue (queue_out journal)))
  has_work-line =
      more_than (left_count queue journal + length (parked queue journal)) (entered_count queue journal) _ (omega (arith, counts_agree terms queue journal notes))

  -- where nobody is out, the line alone tells
  pub has_work-nobody_out : jobs_out journal ≡ [] → has_work queue journal ≡ nat_lt 0 (length (line queue journal))
  has_work-nobody_out nobody =
      more_than (left_count queue journal + length (parked queue journal)) (entered_count queue journal) (length (line queue journal))
      (
      let out : number_if (is_number queue (queue_out journal)) ≡ 0 = rw nobody in
      omega (arith, counts_agree terms queue journal notes)
      )

  -- who waits in the line is work
  pub work_of_line : (name : JobId) (others : List JobId) → line queue journal ≡ name ∷ others → has_work queue journal ≡ true
  work_of_line name others first =
      has_work-line ∙ lt-ltb 0 _ (let long : length (line queue journal) ≡ length (name ∷ others) = rw first in omega arith)

  -- who is out is work of the queue that it entered
  pub work_of_out : (name : JobId) → jobs_out journal ≡ name ∷ [] → queue_of name journal ≡ Some queue → has_work queue journal ≡ true
  work_of_out name alone its =
      has_work-line
      ∙ lt-ltb 0 _
      (let out : number_if (is_number queue (queue_out journal)) ≡ 1 = rw (queue_out-alone name journal alone, its, eq-eqb queue queue refl) in omega arith)

  -- where nobody waits and nobody is out, there is no work
  pub no_work : line queue journal ≡ [] → jobs_out journal ≡ [] → has_work queue journal ≡ false
  no_work nobody_waits nobody = rw (has_work-nobody_out nobody, nobody_waits)

  -- where nobody is out, work has a first in its line
  pub first_of_work : has_work queue journal ≡ true → jobs_out journal ≡ [] → (name : JobId) × (others : List JobId) × (line queue journal ≡ name ∷ others)
  first_of_work work nobody = first_of_some (line queue journal) (sym (has_work-nobody_out nobody) ∙ work)

-- where nobody is out and no turn is open, a pick is right at a queue with a line whose key is at most that of each other queue with a line
pub right_pick_of_lines : {T : Type 0} (terms : Terms) (queue : ℕ) (journal : Journal T) → EachNote (MayStand terms) journal →
    jobs_out journal ≡ [] → queue_in_turn terms.burst journal ≡ None → (name : JobId) (others : List JobId) → line queue journal ≡ name ∷ others →
    ((other : ℕ) (first : JobId) (rest : List JobId) → line other journal ≡ first ∷ rest →
    KeyAtMost (virtual_runtime terms.burst queue journal) queue (virtual_runtime terms.burst other journal) other) →
    IsRightPick terms.burst queue (virtual_runtime terms.burst queue journal) journal
right_pick_of_lines terms queue journal notes nobody closed name others first least = record {
  at = refl;
  eligible = record { work = work_of_line terms queue journal notes name others first; nobody_out = nobody; no_turn = closed };
  least = λ other ready.
      let front = first_of_work terms other journal notes ready.work nobody in
      least other front.0 front.1 front.2;
}
