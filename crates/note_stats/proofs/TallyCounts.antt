-- What a tally counts, and that a note of another queue changes none of it.
use Rattle.std.proofs.Common.{◌≡◌, ℕ, ◌+◌, ◌*◌, ◌^◌, ◌<◌, ◌≤◌, min, max, Bool, true, false, ◌∷◌, [], length, refl, sym, ◌∙◌, ap, cond, arith}
use Rattle.std.specs.Prelude.{Option, Some, None, ◌==◌}
use Rattle.std.proofs.lemmas.Bool.{eq-eqb}
use Rattle.base_words.specs.Charge.{clamped}
use Rattle.base_words.specs.declared.names.JobId.{JobId}
use Rattle.base_words.specs.declared.note.Note.{Note}
use Rattle.base_words.specs.declared.note.Note.TheVariants.{Pick, Start, Resume, Yield, Park, Stayed, Done, Returned, Turned}
use Rattle.base_words.specs.Bursts.{has_bursts, turn_told}
use Rattle.base_words.specs.HandBacks.{picks_of, queue_picked}
use Rattle.base_words.specs.Journal.{Journal, or_else}
use Rattle.base_words.specs.Lag.{greatest_charge}
use Rattle.base_words.specs.Names.{is_number}
use Rattle.base_words.specs.Polls.{poll_settled}
use Rattle.base_words.specs.Runtimes.{charge_of, poll_charged, turn_charged}
use Rattle.base_words.specs.Work.{queue_of, number_if}
use Rattle.note_facts.specs.Accounts.{greatest_runtime, greatest_count}
use Rattle.note_stats.specs.declared.tally.Tally.{Tally}
use Rattle.base_words.specs.Sums.{count_of, queue_of_told, run_time, time_noted, time_of, charges, begun_count, settled_count, finished_count, returned_count}
use Rattle.note_stats.specs.Tallies.{tally_of, queue_noted}

pub number_if-within : (test : Bool) → number_if test ≤ 1
number_if-within true = omega arith
number_if-within false = omega arith

pub still : (count : ℕ) → count ≡ count + 0
still count = omega arith

pub keeps : (greatest : ℕ) → greatest ≡ max greatest 0
keeps greatest = omega arith

-- the number that is there is this one
pub is_this : (queue : ℕ) (there : Option ℕ) → there ≡ Some queue → is_number queue there ≡ true
is_this queue there is = rw is (eq-eqb queue queue refl)

pub one_more_fits : (count notes : ℕ) → count ≤ notes → notes < greatest_count → min (count + 1) greatest_count ≡ count + 1
one_more_fits count notes within short = omega arith

pub sum_fits : (sum more notes : ℕ) → sum ≤ notes * 2 ^ 50 → more < 2 ^ 50 → notes < greatest_count → min (sum + more) greatest_runtime ≡ sum + more
sum_fits sum more notes within less short = omega arith

pub clamped_below : (time : ℕ) → clamped time < 2 ^ 50
clamped_below time = omega arith

time_of-below : (queue : ℕ) (told : Option (Option ℕ × ℕ)) → time_of queue told < 2 ^ 50
time_of-below queue None = omega arith
time_of-below queue (Some charged) = by_test (is_number queue charged.0)
  where
    by_test : (test : Bool) → cond test (clamped charged.1) 0 < 2 ^ 50
    by_test true = clamped_below charged.1
    by_test false = omega arith

module _ {T : Type 0} where
  -- no count is above the number of notes
  pub picks_of-within : (queue : ℕ) (journal : Journal T) → picks_of queue journal ≤ length journal
  picks_of-within queue [] = omega arith
  picks_of-within queue (note ∷ before) =
      omega (arith, picks_of-within queue before, number_if-within (is_number queue (queue_picked note)))

  pub count_of-within : (says : Note T → Option JobId) (queue : ℕ) (journal : Journal T) → count_of says queue journal ≤ length journal
  count_of-within says queue [] = omega arith
  count_of-within says queue (note ∷ before) =
      omega (arith, count_of-within says queue before, number_if-within (is_number queue (queue_of_told (says note) before)))

  time_noted-below : (burst queue : ℕ) (note : Note T) (before : Journal T) → time_noted burst queue note before < 2 ^ 50
  time_noted-below burst queue note before = time_of-below queue (or_else (turn_charged burst (turn_told note)) (poll_charged burst (poll_settled note) before))

  pub run_time-within : (burst queue : ℕ) (journal : Journal T) → run_time burst queue journal ≤ length journal * 2 ^ 50
  run_time-within burst queue [] = omega arith
  run_time-within burst queue (note ∷ before) = omega (arith, run_time-within burst queue before, time_noted-below burst queue note before)

  module _ (burst queue : ℕ) (note : Note T) (before : Journal T) where
    -- a tally of these figures is the one of all notes
    pub tally_is : (tally : Tally) → tally.selected ≡ picks_of queue (note ∷ before) → tally.time ≡ run_time burst queue (note ∷ before) →
        tally.charged ≡ charges burst queue (note ∷ before) → tally.greatest ≡ greatest_charge burst queue (note ∷ before) →
        tally.begun ≡ begun_count queue (note ∷ before) → tally.settled ≡ settled_count queue (note ∷ before) →
        tally.finished ≡ finished_count queue (note ∷ before) → tally.returned ≡ returned_count queue (note ∷ before) →
        tally ≡ tally_of burst queue (note ∷ before)
    tally_is tally selected time charged greatest begun settled finished returned = λ i. record {
      selected = selected i;
      time = time i;
      charged = charged i;
      greatest = greatest i;
      begun = begun i;
      settled = settled i;
      finished = finished i;
      returned = returned i;
    }

  -- a poll of another queue, and a turn of another queue, adds no time and no charge
  module _ (burst queue : ℕ) (before : Journal T) where
    poll_untimed : (name : JobId) (time : ℕ) → is_number queue (queue_of name before) ≡ false → 0 ≡ time_of queue (poll_charged burst (Some (name, time)) before)
    poll_untimed name time apart = by_form (has_bursts burst)
      where
        by_form : (form : Bool) → 0 ≡ time_of queue (cond form None (Some (queue_of name before, time)))
        by_form true = refl
        by_form false = rw apart refl

    poll_unpaid : (name : JobId) (time : ℕ) → is_number queue (queue_of name before) ≡ false → 0 ≡ charge_of queue (poll_charged burst (Some (name, time)) before) before
    poll_unpaid name time apart = by_form (has_bursts burst)
      where
        by_form : (form : Bool) → 0 ≡ charge_of queue (cond form None (Some (queue_of name before, time))) before
        by_form true = refl
        by_form false = rw apart refl

    turn_untimed : (other time : ℕ) → (queue == other) ≡ false → 0 ≡ time_of queue (or_else (turn_charged burst (Some (other, time))) None)
    turn_untimed other time apart = by_form (has_bursts burst)
      where
        by_form : (form : Bool) → 0 ≡ time_of queue (or_else (cond form (Some (Some other, time)) None) None)
        by_form true = rw apart refl
        by_form false = refl

    turn_unpaid : (other time : ℕ) → (queue == other) ≡ false → 0 ≡ charge_of queue (or_else (turn_charged burst (Some (other, time))) None) before
    turn_unpaid other time apart = by_form (has_bursts burst)
      where
        by_form : (form : Bool) → 0 ≡ charge_of queue (or_else (cond form (Some (Some other, time)) None) None) before
        by_form true = rw apart refl
        by_form false = refl

  -- a note of another queue, or of none, changes nothing
  pub tally_other : (burst queue : ℕ) (note : Note T) (before : Journal T) → is_number queue (queue_noted note before) ≡ false →
      tally_of burst queue before ≡ tally_of burst queue (note ∷ before)
  tally_other burst queue (Pick other runtime) before apart =
      tally_is burst queue (Pick other runtime) before (tally_of burst queue before)
      (still (picks_of queue before) ∙ ap (λ test. picks_of queue before + number_if test) (sym apart)) (still (run_time burst queue before)) (still (charges burst queue before))
      (keeps (greatest_charge burst queue before)) (still (begun_count queue before)) (still (settled_count queue before)) (still (finished_count queue before))
      (still (returned_count queue before))
  tally_other burst queue (Start name) before apart =
      tally_is burst queue (Start name) before (tally_of burst queue before) (still (picks_of queue before)) (still (run_time burst queue before)) (still (charges burst queue before))
      (keeps (greatest_charge burst queue before)) (still (begun_count queue before) ∙ ap (λ test. begun_count queue before + number_if test) (sym apart))
      (still (settled_count queue before)) (still (finished_count queue before)) (still (returned_count queue before))
  tally_other burst queue (Resume name) before apart =
      tally_is burst queue (Resume name) before (tally_of burst queue before) (still (picks_of queue before)) (still (run_time burst queue before)) (still (charges burst queue before))
      (keeps (greatest_charge burst queue before)) (still (begun_count queue before) ∙ ap (λ test. begun_count queue before + number_if test) (sym apart))
      (still (settled_count queue before)) (still (finished_count queue before)) (still (returned_count queue before))
  tally_other burst queue (Yield name time) before apart =
      tally_is burst queue (Yield name time) before (tally_of burst queue before) (still (picks_of queue before))
      (still (run_time burst queue before) ∙ ap (λ more. run_time burst queue before + more) (poll_untimed burst queue before name time apart))
      (still (charges burst queue before) ∙ ap (λ more. charges burst queue before + more) (poll_unpaid burst queue before name time apart))
      (keeps (greatest_charge burst queue before) ∙ ap (λ more. max (greatest_charge burst queue before) more) (poll_unpaid burst queue before name time apart))
      (still (begun_count queue before)) (still (settled_count queue before) ∙ ap (λ test. settled_count queue before + number_if test) (sym apart))
      (still (finished_count queue before)) (still (returned_count queue before))
  tally_other burst queue (Park name time) before apart =
      tally_is burst queue (Park name time) before (tally_of burst queue before) (still (picks_of queue before))
      (still (run_time burst queue before) ∙ ap (λ more. run_time burst queue before + more) (poll_untimed burst queue before name time apart))
      (still (charges burst queue before) ∙ ap (λ more. charges burst queue before + more) (poll_unpaid burst queue before name time apart))
      (keeps (greatest_charge burst queue before) ∙ ap (λ more. max (greatest_charge burst queue before) more) (poll_unpaid burst queue before name time apart))
      (still (begun_count queue before)) (still (settled_count queue before) ∙ ap (λ test. settled_count queue before + number_if test) (sym apart))
      (still (finished_count queue before)) (still (returned_count queue before))
  tally_other burst queue (Stayed name time) before apart =
      tally_is burst queue (Stayed name time) before (tally_of burst queue before) (still (picks_of queue before))
      (still (run_time burst queue before) ∙ ap (λ more. run_time burst queue before + more) (poll_untimed burst queue before name time apart))
      (still (charges burst queue before) ∙ ap (λ more. charges burst queue before + more) (poll_unpaid burst queue before name time apart))
      (keeps (greatest_charge burst queue before) ∙ ap (λ more. max (greatest_charge burst queue before) more) (poll_unpaid burst queue before name time apart))
      (still (begun_count queue before)) (still (settled_count queue before) ∙ ap (λ test. settled_count queue before + number_if test) (sym apart))
      (still (finished_count queue before)) (still (returned_count queue before))
  tally_other burst queue (Done name time value) before apart =
      tally_is burst queue (Done name time value) before (tally_of burst queue before) (still (picks_of queue before))
      (still (run_time burst queue before) ∙ ap (λ more. run_time burst queue before + more) (poll_untimed burst queue before name time apart))
      (still (charges burst queue before) ∙ ap (λ more. charges burst queue before + more) (poll_unpaid burst queue before name time apart))
      (keeps (greatest_charge burst queue before) ∙ ap (λ more. max (greatest_charge burst queue before) more) (poll_unpaid burst queue before name time apart))
      (still (begun_count queue before)) (still (settled_count queue before) ∙ ap (λ test. settled_count queue before + number_if test) (sym apart))
      (still (finished_count queue before) ∙ ap (λ test. finished_count queue before + number_if test) (sym apart)) (still (returned_count queue before))
  tally_other burst queue (Returned name reason) before apart =
      tally_is burst queue (Returned name reason) before (tally_of burst queue before) (still (picks_of queue before)) (still (run_time burst queue before))
      (still (charges burst queue before)) (keeps (greatest_charge burst queue before)) (still (begun_count queue before)) (still (settled_count queue before))
      (still (finished_count queue before)) (still (returned_count queue before) ∙ ap (λ test. returned_count queue before + number_if test) (sym apart))
  tally_other burst queue (Turned other time) before apart =
      tally_is burst queue (Turned other time) before (tally_of burst queue before) (still (picks_of queue before))
      (still (run_time burst queue before) ∙ ap (λ more. run_time burst queue before + more) (turn_untimed burst queue before other time apart))
      (still (charges burst queue before) ∙ ap (λ more. charges burst queue before + more) (turn_unpaid burst queue before other time apart))
      (keeps (greatest_charge burst queue before) ∙ ap (λ more. max (greatest_charge burst queue before) more) (turn_unpaid burst queue before other time apart))
      (still (begun_count queue before)) (still (settled_count queue before)) (still (finished_count queue before)) (still (returned_count queue before))
  tally_other burst queue note before apart =
      tally_is burst queue note before (tally_of burst queue before) (still (picks_of queue before)) (still (run_time burst queue before)) (still (charges burst queue before))
      (keeps (greatest_charge burst queue before)) (still (begun_count queue before)) (still (settled_count queue before)) (still (finished_count queue before))
      (still (returned_count queue before))
