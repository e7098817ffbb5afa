-- What a tally says after one more note.
use Rattle.std.proofs.Common.{◌≡◌, ℕ, ◌+◌, ◌*◌, ◌^◌, ◌<◌, ◌≤◌, min, max, Bool, true, false, List, ◌∷◌, [], length, sym, ◌∙◌, ap, cond, subst, arith, get_or, set}
use Rattle.std.specs.Prelude.{Some, None, not, ◌==◌}
use Rattle.std.proofs.lemmas.Bool.{ne_eqb}
use Rattle.base_words.specs.Charge.{charge, clamped}
use Rattle.base_words.specs.declared.names.JobId.{JobId}
use Rattle.base_words.specs.declared.note.Note.{Note}
use Rattle.base_words.specs.declared.note.Note.TheVariants.{Pick, Start, Resume, Yield, Park, Stayed, Done, Returned, Turned}
use Rattle.base_words.specs.Bursts.{has_bursts}
use Rattle.base_words.specs.HandBacks.{picks_of}
use Rattle.base_words.specs.Journal.{Journal, or_else}
use Rattle.base_words.specs.Lag.{greatest_charge}
use Rattle.base_words.specs.Names.{is_number}
use Rattle.base_words.specs.Runtimes.{shares, charge_of, poll_charged, turn_charged}
use Rattle.base_words.specs.Work.{queue_of, number_if}
use Rattle.note_facts.specs.Accounts.{greatest_runtime, greatest_count}
use Rattle.note_stats.specs.declared.tally.Tally.{Tally}
use Rattle.base_words.specs.Sums.{run_time, time_of, charges, begun_count, settled_count, finished_count, returned_count}
use Rattle.base_words.proofs.Tables.{each_next}
use Rattle.note_stats.specs.Tallies.{charged_if, tally_after, tally_of, queue_noted, cost_told, KnowsTally, no_tally}
use Rattle.note_stats.proofs.TallyCounts.{still, keeps, is_this, one_more_fits, sum_fits, clamped_below, picks_of-within, count_of-within, run_time-within, tally_is, tally_other}

module _ {T : Type 0} where
  module _ (burst queue : ℕ) (before : Journal T) (cost : ℕ) (short : length before < greatest_count) (cheap : cost < 2 ^ 50)
      (within : charges burst queue before ≤ length before * 2 ^ 50) where
    counted : (count : ℕ) (test : Bool) → count ≤ length before → test ≡ true → min (count + 1) greatest_count ≡ count + number_if test
    counted count true fits here = one_more_fits count (length before) fits short
    counted count false fits here = cc

    timed : (time : ℕ) (test : Bool) → test ≡ true →
        min (run_time burst queue before + clamped time) greatest_runtime ≡ run_time burst queue before + cond test (clamped time) 0
    timed time true here = sum_fits (run_time burst queue before) (clamped time) (length before) (run_time-within burst queue before) (clamped_below time) short
    timed time false here = cc

    charged : (price : ℕ) (test : Bool) → test ≡ true → cost ≡ price → min (charges burst queue before + cost) greatest_runtime ≡ charges burst queue before + cond test price 0
    charged price true here is = sum_fits (charges burst queue before) cost (length before) within cheap short ∙ ap (λ more. charges burst queue before + more) is
    charged price false here is = cc

    highest : (price : ℕ) (test : Bool) → test ≡ true → cost ≡ price → max (greatest_charge burst queue before) cost ≡ max (greatest_charge burst queue before) (cond test price 0)
    highest price true here is = ap (max (greatest_charge burst queue before)) is
    highest price false here is = cc

    -- a poll of the queue adds its time and its cost where it ends its turn
    poll_timed : (name : JobId) (time : ℕ) → is_number queue (queue_of name before) ≡ true →
        cond (not (has_bursts burst)) (min (run_time burst queue before + clamped time) greatest_runtime) (run_time burst queue before) ≡
        run_time burst queue before + time_of queue (poll_charged burst (Some (name, time)) before)
    poll_timed name time here = by_form (has_bursts burst)
      where
        by_form : (form : Bool) → cond (not form) (min (run_time burst queue before + clamped time) greatest_runtime) (run_time burst queue before) ≡
            run_time burst queue before + time_of queue (cond form None (Some (queue_of name before, time)))
        by_form true = still (run_time burst queue before)
        by_form false = timed time (is_number queue (queue_of name before)) here

    poll_paid : (name : JobId) (time : ℕ) → is_number queue (queue_of name before) ≡ true → cost ≡ charge time (shares queue before) →
        cond (not (has_bursts burst)) (min (charges burst queue before + cost) greatest_runtime) (charges burst queue before) ≡
        charges burst queue before + charge_of queue (poll_charged burst (Some (name, time)) before) before
    poll_paid name time here is = by_form (has_bursts burst)
      where
        by_form : (form : Bool) → cond (not form) (min (charges burst queue before + cost) greatest_runtime) (charges burst queue before) ≡
            charges burst queue before + charge_of queue (cond form None (Some (queue_of name before, time))) before
        by_form true = still (charges burst queue before)
        by_form false = charged (charge time (shares queue before)) (is_number queue (queue_of name before)) here is

    poll_highest : (name : JobId) (time : ℕ) → is_number queue (queue_of name before) ≡ true → cost ≡ charge time (shares queue before) →
        cond (not (has_bursts burst)) (max (greatest_charge burst queue before) cost) (greatest_charge burst queue before) ≡
        max (greatest_charge burst queue before) (charge_of queue (poll_charged burst (Some (name, time)) before) before)
    poll_highest name time here is = by_form (has_bursts burst)
      where
        by_form : (form : Bool) → cond (not form) (max (greatest_charge burst queue before) cost) (greatest_charge burst queue before) ≡
            max (greatest_charge burst queue before) (charge_of queue (cond form None (Some (queue_of name before, time))) before)
        by_form true = keeps (greatest_charge burst queue before)
        by_form false = highest (charge time (shares queue before)) (is_number queue (queue_of name before)) here is

    -- a turn of the queue that ends by a note of its own adds its time and its cost
    turn_timed : (other time : ℕ) → (queue == other) ≡ true →
        cond (has_bursts burst) (min (run_time burst queue before + clamped time) greatest_runtime) (run_time burst queue before) ≡
        run_time burst queue before + time_of queue (or_else (turn_charged burst (Some (other, time))) None)
    turn_timed other time here = by_form (has_bursts burst)
      where
        by_form : (form : Bool) → cond form (min (run_time burst queue before + clamped time) greatest_runtime) (run_time burst queue before) ≡
            run_time burst queue before + time_of queue (or_else (cond form (Some (Some other, time)) None) None)
        by_form true = timed time (queue == other) here
        by_form false = still (run_time burst queue before)

    turn_paid : (other time : ℕ) → (queue == other) ≡ true → cost ≡ charge time (shares queue before) →
        cond (has_bursts burst) (min (charges burst queue before + cost) greatest_runtime) (charges burst queue before) ≡
        charges burst queue before + charge_of queue (or_else (turn_charged burst (Some (other, time))) None) before
    turn_paid other time here is = by_form (has_bursts burst)
      where
        by_form : (form : Bool) → cond form (min (charges burst queue before + cost) greatest_runtime) (charges burst queue before) ≡
            charges burst queue before + charge_of queue (or_else (cond form (Some (Some other, time)) None) None) before
        by_form true = charged (charge time (shares queue before)) (queue == other) here is
        by_form false = still (charges burst queue before)

    turn_highest : (other time : ℕ) → (queue == other) ≡ true → cost ≡ charge time (shares queue before) →
        cond (has_bursts burst) (max (greatest_charge burst queue before) cost) (greatest_charge burst queue before) ≡
        max (greatest_charge burst queue before) (charge_of queue (or_else (turn_charged burst (Some (other, time))) None) before)
    turn_highest other time here is = by_form (has_bursts burst)
      where
        by_form : (form : Bool) → cond form (max (greatest_charge burst queue before) cost) (greatest_charge burst queue before) ≡
            max (greatest_charge burst queue before) (charge_of queue (or_else (cond form (Some (Some other, time)) None) None) before)
        by_form true = highest (charge time (shares queue before)) (queue == other) here is
        by_form false = keeps (greatest_charge burst queue before)

    -- a note of its queue changes the tally so
    pub tally_own : (note : Note T) → queue_noted note before ≡ Some queue → cost ≡ cost_told (shares queue before) note →
        tally_after {T = T} burst cost note (tally_of burst queue before) ≡ tally_of burst queue (note ∷ before)
    tally_own (Pick other runtime) noted is =
        tally_is burst queue (Pick other runtime) before (tally_after {T = T} burst cost (Pick other runtime) (tally_of burst queue before))
        (counted (picks_of queue before) (queue == other) (picks_of-within queue before) (is_this queue (Some other) noted)) (still (run_time burst queue before))
        (still (charges burst queue before)) (keeps (greatest_charge burst queue before)) (still (begun_count queue before)) (still (settled_count queue before))
        (still (finished_count queue before)) (still (returned_count queue before))
    tally_own (Start name) noted is =
        tally_is burst queue (Start name) before (tally_after {T = T} burst cost (Start name) (tally_of burst queue before)) (still (picks_of queue before))
        (still (run_time burst queue before)) (still (charges burst queue before)) (keeps (greatest_charge burst queue before))
        (counted (begun_count queue before) (is_number queue (queue_of name before)) (count_of-within _ queue before) (is_this queue (queue_of name before) noted))
        (still (settled_count queue before)) (still (finished_count queue before)) (still (returned_count queue before))
    tally_own (Resume name) noted is =
        tally_is burst queue (Resume name) before (tally_after {T = T} burst cost (Resume name) (tally_of burst queue before)) (still (picks_of queue before))
        (still (run_time burst queue before)) (still (charges burst queue before)) (keeps (greatest_charge burst queue before))
        (counted (begun_count queue before) (is_number queue (queue_of name before)) (count_of-within _ queue before) (is_this queue (queue_of name before) noted))
        (still (settled_count queue before)) (still (finished_count queue before)) (still (returned_count queue before))
    tally_own (Yield name time) noted is =
        let here : is_number queue (queue_of name before) ≡ true = is_this queue (queue_of name before) noted in
        tally_is burst queue (Yield name time) before (tally_after {T = T} burst cost (Yield name time) (tally_of burst queue before)) (still (picks_of queue before))
        (poll_timed name time here) (poll_paid name time here is)
        (poll_highest name time here is) (still (begun_count queue before))
        (counted (settled_count queue before) (is_number queue (queue_of name before)) (count_of-within _ queue before) here)
        (still (finished_count queue before)) (still (returned_count queue before))
    tally_own (Park name time) noted is =
        let here : is_number queue (queue_of name before) ≡ true = is_this queue (queue_of name before) noted in
        tally_is burst queue (Park name time) before (tally_after {T = T} burst cost (Park name time) (tally_of burst queue before)) (still (picks_of queue before))
        (poll_timed name time here) (poll_paid name time here is)
        (poll_highest name time here is) (still (begun_count queue before))
        (counted (settled_count queue before) (is_number queue (queue_of name before)) (count_of-within _ queue before) here)
        (still (finished_count queue before)) (still (returned_count queue before))
    tally_own (Stayed name time) noted is =
        let here : is_number queue (queue_of name before) ≡ true = is_this queue (queue_of name before) noted in
        tally_is burst queue (Stayed name time) before (tally_after {T = T} burst cost (Stayed name time) (tally_of burst queue before)) (still (picks_of queue before))
        (poll_timed name time here) (poll_paid name time here is)
        (poll_highest name time here is) (still (begun_count queue before))
        (counted (settled_count queue before) (is_number queue (queue_of name before)) (count_of-within _ queue before) here)
        (still (finished_count queue before)) (still (returned_count queue before))
    tally_own (Done name time value) noted is =
        let here : is_number queue (queue_of name before) ≡ true = is_this queue (queue_of name before) noted in
        tally_is burst queue (Done name time value) before (tally_after {T = T} burst cost (Done name time value) (tally_of burst queue before)) (still (picks_of queue before))
        (poll_timed name time here) (poll_paid name time here is)
        (poll_highest name time here is) (still (begun_count queue before))
        (counted (settled_count queue before) (is_number queue (queue_of name before)) (count_of-within _ queue before) here)
        (counted (finished_count queue before) (is_number queue (queue_of name before)) (count_of-within _ queue before) here)
        (still (returned_count queue before))
    tally_own (Returned name reason) noted is =
        tally_is burst queue (Returned name reason) before (tally_after {T = T} burst cost (Returned name reason) (tally_of burst queue before)) (still (picks_of queue before))
        (still (run_time burst queue before)) (still (charges burst queue before)) (keeps (greatest_charge burst queue before)) (still (begun_count queue before))
        (still (settled_count queue before)) (still (finished_count queue before))
        (counted (returned_count queue before) (is_number queue (queue_of name before)) (count_of-within _ queue before) (is_this queue (queue_of name before) noted))
    tally_own (Turned other time) noted is =
        let here : (queue == other) ≡ true = is_this queue (Some other) noted in
        tally_is burst queue (Turned other time) before (tally_after {T = T} burst cost (Turned other time) (tally_of burst queue before))
        (still (picks_of queue before)) (turn_timed other time here) (turn_paid other time here is) (turn_highest other time here is)
        (still (begun_count queue before)) (still (settled_count queue before)) (still (finished_count queue before)) (still (returned_count queue before))
    tally_own note noted is =
        tally_is burst queue note before (tally_of burst queue before) (still (picks_of queue before)) (still (run_time burst queue before)) (still (charges burst queue before))
        (keeps (greatest_charge burst queue before)) (still (begun_count queue before)) (still (settled_count queue before)) (still (finished_count queue before))
        (still (returned_count queue before))

-- a note adds no more than its cost
charged-within : {T : Type 0} (burst cost : ℕ) (note : Note T) (tally : Tally) → (tally_after {T = T} burst cost note tally).charged ≤ tally.charged + cost
charged-within {T} burst cost note tally = by_note note
  where
    by_test : (counts : Bool) (time : ℕ) → (charged_if counts cost time tally).charged ≤ tally.charged + cost
    by_test true time = omega arith
    by_test false time = omega arith

    by_note : (note : Note T) → (tally_after {T = T} burst cost note tally).charged ≤ tally.charged + cost
    by_note (Yield name time) = by_test (not (has_bursts burst)) time
    by_note (Park name time) = by_test (not (has_bursts burst)) time
    by_note (Stayed name time) = by_test (not (has_bursts burst)) time
    by_note (Done name time value) = by_test (not (has_bursts burst)) time
    by_note (Turned queue time) = by_test (has_bursts burst) time
    by_note _ = omega arith

module _ {T : Type 0} (burst queue : ℕ) (tally : Tally) (note : Note T) (before : Journal T) (knows : KnowsTally burst queue tally before) where
  -- another queue's note changes nothing
  pub knows_other : is_number queue (queue_noted note before) ≡ false → KnowsTally burst queue tally (note ∷ before)
  knows_other apart =
      let same = tally_other burst queue note before apart in
      let unpaid : charges burst queue before ≡ charges burst queue (note ∷ before) = ap (λ (one : Tally). one.charged) same in
      record { figures = knows.figures ∙ same; cheap = omega (arith, unpaid, knows.cheap) }

  -- a note of its queue changes the tally so
  pub knows_own : (cost : ℕ) → queue_noted note before ≡ Some queue → cost ≡ cost_told (shares queue before) note → length before < greatest_count →
      cost < 2 ^ 50 → KnowsTally burst queue (tally_after {T = T} burst cost note tally) (note ∷ before)
  knows_own cost noted is short cheap =
      let next = tally_own burst queue before cost short cheap knows.cheap note noted is in
      let paid : (tally_after {T = T} burst cost note (tally_of burst queue before)).charged ≡ charges burst queue (note ∷ before) = ap (λ (one : Tally). one.charged) next in
      record {
        figures = ap (tally_after {T = T} burst cost note) knows.figures ∙ next;
        cheap = omega (arith, paid, knows.cheap, charged-within {T = T} burst cost note (tally_of burst queue before));
      }

-- tallies that are all empty say nothing
pub none_knows : {T : Type 0} (burst queue : ℕ) (tally : Tally) → tally ≡ no_tally → KnowsTally {T = T} burst queue tally []
none_knows burst queue tally is = record { figures = is; cheap = omega arith }

module _ {T : Type 0} (burst : ℕ) (note : Note T) (before : Journal T) (tallies : List Tally) (knows : (queue : ℕ) → KnowsTally burst queue (get_or tallies queue no_tally) before) where
  -- all tallies after a note of one queue
  pub tallies_after_one : (index cost : ℕ) (new : Tally) → index < length tallies → length before < greatest_count → cost < 2 ^ 50 →
      queue_noted note before ≡ Some index → cost ≡ cost_told (shares index before) note → new ≡ tally_after {T = T} burst cost note (get_or tallies index no_tally) →
      (queue : ℕ) → KnowsTally burst queue (get_or (set tallies index new) queue no_tally) (note ∷ before)
  tallies_after_one index cost new within short cheap noted priced is =
      each_next (λ queue tally. KnowsTally burst queue tally before) (λ queue tally. KnowsTally burst queue tally (note ∷ before)) tallies index new no_tally within
      (λ queue apart was. knows_other burst queue (get_or tallies queue no_tally) note before was (ap (is_number queue) noted ∙ ne_eqb queue index apart))
      (subst (λ (one : Tally). KnowsTally burst index one (note ∷ before)) (sym is)
      (knows_own burst index (get_or tallies index no_tally) note before (knows index) cost noted priced short cheap))
      knows

  -- all tallies after a note of none
  pub tallies_after_none : queue_noted note before ≡ None → (queue : ℕ) → KnowsTally burst queue (get_or tallies queue no_tally) (note ∷ before)
  tallies_after_none noted = λ queue. knows_other burst queue (get_or tallies queue no_tally) note before (knows queue) (ap (is_number queue) noted)
