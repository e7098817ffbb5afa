-- After a close in mode `Return` a queue, and a core, is picked at most as often as jobs were inside, and is empty after that many.
use Rattle.base_words.proofs.Words.{ap, arith, Bool, cases_lt, ClosingHandsBack, core_mode, CoreEmpties, created_count, EachNote, entered_count, eqb-false, eqb-true, false, false_from_ne_true, has_work, inl, inr, is_number, is_some}
use Rattle.base_words.proofs.Words.{IsTurnOf, JobId, jobs_below, jobs_inside, Journal, le-ltb, left_count, ltb-true, MayFollow, MayStand, None, Note, number_if, Option, parked, pick_count, picks_of, queue_joined, queue_picked, QueueEmpties}
use Rattle.base_words.proofs.Words.{QueueHandsBack, refl, return_reason, Some, subst, suc, sym, Terms, true, true≢false, turns, zero, ℕ, [], ◌++◌, ◌+◌, ◌-◌, ◌<◌, ◌==◌, ◌∙◌, ◌∷◌, ◌≡◌, ◌≤◌}
use Rattle.std.specs.Prelude.{length}
use Rattle.base_words.specs.declared.note.Note.TheVariants.{Pick, Start, Resume, Returned}
use Rattle.base_words.specs.declared.order.Mode.TheVariants.{Return}
use Rattle.base_words.specs.Picks.{queue_just_picked}
use Rattle.base_words.proofs.Known.{known_of, first_in_line}
use Rattle.base_words.proofs.OpenTurns.{turn_of_pick}
use Rattle.base_words.proofs.Returning.{IsReturning, has_reason, core_stays_returning, returning-stays, joins_nobody, hands_back, nobody_parked-returning, entered_there, created_count-returning}
use Rattle.base_words.proofs.WorkOfLines.{work_of_line}

-- one, if the queue was just picked
abbrev pending : {T : Type 0} → ℕ → Journal T → ℕ
pending queue journal = number_if (is_number queue (queue_just_picked journal))

-- where no queue was picked, this one wasn't
none_pending : (queue : ℕ) (picked : Option ℕ) → is_some picked ≡ false → number_if (is_number queue picked) ≡ 0
none_pending queue None nobody = refl
none_pending queue (Some other) nobody = cc

module _ {T : Type 0} (terms : Terms) where
  -- a queue that was just picked has a job inside
  picked_inside : (queue : ℕ) (journal : Journal T) → EachNote (MayStand terms) journal → pending queue journal ≤ jobs_inside queue journal
  picked_inside queue [] notes = omega arith
  picked_inside queue (Pick other runtime ∷ before) notes = by_test (queue == other) refl
    where
      by_test : (test : Bool) → (queue == other) ≡ test → number_if test ≤ jobs_inside queue (Pick other runtime ∷ before)
      by_test true same =
          let work : has_work queue before ≡ true = rw (eqb-true queue other same) notes.0.may_follow.right.eligible.work in
          let more : left_count queue before + length (parked queue before) < entered_count queue before = ltb-true _ _ work in
          omega arith
      by_test false apart = omega arith
  picked_inside queue (_ ∷ before) notes = omega arith

  module _ (queue : ℕ) where
    -- a job is polled of another queue than one that hands back
    not_picked : (before : Journal T) → IsReturning queue before → (name : JobId) (picked : ℕ) → IsTurnOf terms.burst name picked before → return_reason picked before ≡ None → pending queue before ≡ 0
    not_picked before returning name picked turn none = by_pick (is_some (queue_just_picked before)) refl
      where
        by_test : (test : Bool) → (queue == picked) ≡ test → number_if test ≡ 0
        by_test false apart = refl
        by_test true same = absurd (has_reason queue before returning (rw (eqb-true queue picked same) none))

        by_pick : (some : Bool) → is_some (queue_just_picked before) ≡ some → pending queue before ≡ 0
        by_pick true some = rw (turn_of_pick terms.burst name picked before turn some) (by_test (queue == picked) refl)
        by_pick false some = none_pending queue (queue_just_picked before) some

    -- a note behind a pick of a queue that hands back takes one job out of it, and no note brings one in
    empties_step : (note : Note T) (before : Journal T) → EachNote (MayStand terms) before → MayStand terms note before → IsReturning queue before →
        number_if (is_number queue (queue_picked note)) + jobs_inside queue (note ∷ before) + pending queue before ≤ jobs_inside queue before + pending queue (note ∷ before)
    empties_step (Pick other runtime) before notes law returning =
        let none = none_pending queue (queue_just_picked before) law.turn in
        omega arith
    empties_step (Returned name reason) before notes law returning = by_turn law.may_follow.0 law.may_follow.1
      where
        by_turn : (picked : ℕ) → IsTurnOf terms.burst name picked before → 0 + jobs_inside queue (Returned name reason ∷ before) + pending queue before ≤ jobs_inside queue before + 0
        by_turn picked turn =
            let its = (known_of terms before notes).line_queue picked name (first_in_line terms name picked before turn) in
            rw (its, turn_of_pick terms.burst name picked before turn law.turn) (by_test (queue == picked) refl)
          where
            by_test : (test : Bool) → (queue == picked) ≡ test →
                0 + ((entered_count queue before + 0) - (left_count queue before + number_if test)) + number_if test ≤ jobs_inside queue before + 0
            by_test false apart = omega arith
            by_test true same =
                let work : has_work queue before ≡ true = rw (eqb-true queue picked same) (work_of_line terms picked before notes name turn.others turn.first) in
                let more : left_count queue before + length (parked queue before) < entered_count queue before = ltb-true _ _ work in
                omega arith
    empties_step (Start name) before notes law returning =
        let none = not_picked before returning name law.may_follow.0 law.may_follow.1 law.may_follow.2 in
        omega arith
    empties_step (Resume name) before notes law returning =
        let none = not_picked before returning name law.may_follow.0 law.may_follow.1 law.may_follow.2 in
        omega arith
    empties_step note before notes law returning =
        let none = none_pending queue (queue_just_picked before) law.turn in
        let nobody : number_if (is_number queue (queue_joined note)) ≡ 0 = ap number_if (joins_nobody terms queue note before law.may_follow returning) in
        omega arith

    module _ (earlier : Journal T) where
      -- the queue hands back from then on
      still_returning : (later : Journal T) → EachNote (MayStand terms) (later ++ earlier) → IsReturning queue earlier → IsReturning queue (later ++ earlier)
      still_returning [] notes returning = returning
      still_returning (note ∷ later) notes returning =
          returning-stays terms queue note (later ++ earlier) notes.0.may_follow (still_returning later notes.1 returning)

      -- each pick takes one of those that were inside
      empties : (later : Journal T) → EachNote (MayStand terms) (later ++ earlier) → IsReturning queue earlier →
          picks_of queue later + jobs_inside queue (later ++ earlier) ≤ jobs_inside queue earlier + pending queue (later ++ earlier)
      empties [] notes returning = omega arith
      empties (note ∷ later) notes returning =
          let was = empties later notes.1 returning in
          let step = empties_step note (later ++ earlier) notes.1 notes.0 (still_returning later notes.1 returning) in
          omega arith

      -- and hands it back
      each_handed_back : (later : Journal T) → EachNote (MayStand terms) (later ++ earlier) → IsReturning queue earlier → QueueHandsBack queue later earlier
      each_handed_back [] notes returning = tt
      each_handed_back (note ∷ later) notes returning = (
        hands_back terms queue note (later ++ earlier) notes.0 (still_returning later notes.1 returning),
        each_handed_back later notes.1 returning,
      )

      -- so the queue is picked no more often, and is empty after that many picks
      pub queue_empties : (later : Journal T) → EachNote (MayStand terms) (later ++ earlier) → IsReturning queue earlier → QueueEmpties queue later earlier
      queue_empties later notes returning = record {
        hands_back = each_handed_back later notes returning;
        few = omega (arith, empties later notes returning, picked_inside queue (later ++ earlier) notes);
        no_work = λ all none.
            let left : pending queue (later ++ earlier) ≡ 0 = rw none in
            le-ltb (left_count queue (later ++ earlier) + length (parked queue (later ++ earlier))) (entered_count queue (later ++ earlier)) (omega (arith, empties later notes returning));
        nobody_parked = nobody_parked-returning terms queue (later ++ earlier) notes (still_returning later notes returning);
      }

  -- a queue with work is one that there is
  worked_there : (queue : ℕ) (journal : Journal T) → EachNote (MayStand terms) journal → has_work queue journal ≡ true → queue ≤ created_count journal
  worked_there queue journal notes work =
      let more : left_count queue journal + length (parked queue journal) < entered_count queue journal = ltb-true _ _ work in
      entered_there terms queue journal notes (omega arith)

-- the picks of the queues below this number
abbrev picks_below : {T : Type 0} → ℕ → Journal T → ℕ
picks_below zero later = 0
picks_below (suc queue) later = picks_below queue later + picks_of queue later

-- more notes pick no less
picks_below-grows : {T : Type 0} (count : ℕ) (note : Note T) (later : Journal T) → picks_below count later ≤ picks_below count (note ∷ later)
picks_below-grows zero note later = omega arith
picks_below-grows (suc queue) note later = omega (arith, picks_below-grows queue note later)

-- and a pick of one of these queues is one more
picks_below-pick : {T : Type 0} (count queue runtime : ℕ) (later : Journal T) → queue < count → picks_below count later + 1 ≤ picks_below count (Pick queue runtime ∷ later)
picks_below-pick zero queue runtime later below = absurd (omega arith)
picks_below-pick (suc last) queue runtime later below = by_test (last == queue) refl (picks_below-pick last queue runtime later)
  where
    by_test : (test : Bool) → (last == queue) ≡ test → (queue < last → picks_below last later + 1 ≤ picks_below last (Pick queue runtime ∷ later)) →
        picks_below last later + picks_of last later + 1 ≤ picks_below last (Pick queue runtime ∷ later) + (picks_of last later + number_if test)
    by_test true same rest = omega (arith, picks_below-grows last (Pick queue runtime) later)
    by_test false apart rest = let other = eqb-false last queue apart in omega (arith, rest (omega arith))

module _ {T : Type 0} (later earlier : Journal T) (few : (queue : ℕ) → picks_of queue later ≤ jobs_inside queue earlier) where
  -- what holds of each queue holds of all together
  few_below : (count : ℕ) → picks_below count later ≤ jobs_below count earlier
  few_below zero = omega arith
  few_below (suc queue) = omega (arith, few queue, few_below queue)

  -- where all together are picked as often as they may be, so is each
  all_picked : (count : ℕ) → jobs_below count earlier ≤ picks_below count later → (queue : ℕ) → queue < count → picks_of queue later ≡ jobs_inside queue earlier
  all_picked zero full queue below = absurd (omega arith)
  all_picked (suc last) full queue below =
      let here = few last in
      let rest = few_below last in
      elim (cases_lt queue last) [
        | inl lower ↦ all_picked last (omega arith) queue lower
        | inr not_lower ↦
            let one : last ≡ queue = omega arith in
            let all : picks_of last later ≡ jobs_inside last earlier = omega arith in
            subst (λ which. picks_of which later ≡ jobs_inside which earlier) one all
      ]

module _ {T : Type 0} (terms : Terms) (earlier : Journal T) (mode : core_mode earlier ≡ Some Return) where
  -- the core hands back from then on
  still_closed : (later : Journal T) → EachNote (MayStand terms) (later ++ earlier) → core_mode (later ++ earlier) ≡ Some Return
  still_closed [] notes = mode
  still_closed (note ∷ later) notes = core_stays_returning terms note (later ++ earlier) notes.0.may_follow (still_closed later notes.1)

  -- and creates no queue
  same_queues : (later : Journal T) → EachNote (MayStand terms) (later ++ earlier) → created_count (later ++ earlier) ≡ created_count earlier
  same_queues [] notes = refl
  same_queues (note ∷ later) notes =
      created_count-returning terms note (later ++ earlier) notes.1 notes.0 (still_closed later notes.1) ∙ same_queues later notes.1

  -- each pick is of one of the queues that there were
  picks_counted : (later : Journal T) → EachNote (MayStand terms) (later ++ earlier) → turns later ≤ picks_below (created_count earlier + 1) later
  picks_counted [] notes = omega arith
  picks_counted (note ∷ later) notes = by_note note notes.0.may_follow (picks_counted later notes.1)
    where
      by_note : (note : Note T) → MayFollow terms note (later ++ earlier) → turns later ≤ picks_below (created_count earlier + 1) later →
          turns later + pick_count note ≤ picks_below (created_count earlier + 1) (note ∷ later)
      by_note (Pick queue runtime) law was =
          let there = worked_there terms queue (later ++ earlier) notes.1 law.right.eligible.work in
          let same = same_queues later notes.1 in
          omega (arith, picks_below-pick (created_count earlier + 1) queue runtime later (omega arith))
      by_note note law was = omega (arith, picks_below-grows (created_count earlier + 1) note later)

  -- so all queues together are picked no more often, and are empty after that many picks
  pub core_empties : (later : Journal T) → EachNote (MayStand terms) (later ++ earlier) → CoreEmpties later earlier
  core_empties later notes = record {
    hands_back = λ queue. (each queue).hands_back;
    few = omega (arith, picks_counted later notes, few_below later earlier few (created_count earlier + 1));
    no_work = λ all none queue. false_from_ne_true _ (λ work. true≢false (sym work ∙ emptied all none queue (there queue work)));
    nobody_parked = λ queue. (each queue).nobody_parked;
  }
    where
      each : (queue : ℕ) → QueueEmpties queue later earlier
      each queue = queue_empties terms queue earlier later notes (inr mode)

      few : (queue : ℕ) → picks_of queue later ≤ jobs_inside queue earlier
      few queue = (each queue).few

      there : (queue : ℕ) → has_work queue (later ++ earlier) ≡ true → queue < created_count earlier + 1
      there queue work = omega (arith, worked_there terms queue (later ++ earlier) notes work, same_queues later notes)

      emptied : turns later ≡ jobs_below (created_count earlier + 1) earlier → queue_just_picked (later ++ earlier) ≡ None → (queue : ℕ) → queue < created_count earlier + 1 →
          has_work queue (later ++ earlier) ≡ false
      emptied all none queue below =
          (each queue).no_work (all_picked later earlier few (created_count earlier + 1) (omega (arith, picks_counted later notes)) queue below) none

-- after a close in mode `Return`
pub closing_hands_back : ClosingHandsBack
closing_hands_back = record {
  queues = λ terms queue later earlier notes mode. queue_empties terms queue earlier later notes (inl mode);
  cores = λ terms later earlier notes mode. core_empties terms earlier mode later notes;
}
