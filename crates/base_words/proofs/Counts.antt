-- The jobs that entered a queue have left it, wait in its line, are parked, or are out. So a queue has work where its line is not empty or its job is out.
use Rattle.base_words.proofs.Words.{ap, arith, Bool, EachNote, eqb-false, eqb-true, false, is_number, IsTurnOf, JobId, jobs_out, JobsAddUp, Journal, length, line, List, MayFollow, MayStand, names_but, None, Note, number_if, parked}
use Rattle.base_words.proofs.Words.{queue_of, queue_of_first, queue_out, refl, Some, still_parked, Terms, true, unparked, with_all, ℕ, [], ◌+◌, ◌==◌, ◌∷◌, ◌≡◌}
use Rattle.base_words.specs.declared.note.Note.TheVariants.{Took, QueueClosed, CoreClosed, Woken, Start, Resume, Yield, Park, Stayed, Done, Returned}
use Rattle.base_words.proofs.JobsOut.{nobody_at_turn, jobs_out-start, jobs_out-resume, names_but-alone}
use Rattle.base_words.proofs.Known.{Known, known_of, parked-kept, queue_stays, first_in_line}
use Rattle.base_words.proofs.LineSteps.{names_but-turn, names_but-turn_elsewhere, line-done}
use Rattle.base_words.proofs.NameLemmas.{among, same_as_itself}
use Rattle.base_words.proofs.Parks.{length-parks}
use Rattle.base_words.proofs.Told.{length-with_last_if, length-with_all}

-- the queue of the first of some jobs stays, where that of each of them does
queue_of_first-stays : {T : Type 0} (names : List JobId) (note : Note T) (before : Journal T) →
    ((name : JobId) → among name names ≡ true → queue_of name (note ∷ before) ≡ queue_of name before) →
    queue_of_first names (note ∷ before) ≡ queue_of_first names before
queue_of_first-stays [] note before stays = refl
queue_of_first-stays (name ∷ names) note before stays = stays name (rw (same_as_itself name))

-- the queue of the one that is out
pub queue_out-alone : {T : Type 0} (name : JobId) (journal : Journal T) → jobs_out journal ≡ name ∷ [] → queue_out journal ≡ queue_of name journal
queue_out-alone name journal alone = rw alone

-- where nobody is out, there is no such queue
pub queue_out-nobody : {T : Type 0} (journal : Journal T) → jobs_out journal ≡ [] → queue_out journal ≡ None
queue_out-nobody journal nobody = rw nobody

module _ {T : Type 0} (terms : Terms) where
  -- a job that stays out stays of its queue
  pub queue_out-stays : (note : Note T) (before : Journal T) → MayFollow terms note before → Known before →
      queue_of_first (jobs_out before) (note ∷ before) ≡ queue_out before
  queue_out-stays note before law known =
      queue_of_first-stays (jobs_out before) note before
      (λ name there. queue_stays terms name note before law (known.entered_old name (known.out_inside name there).entered))

  -- a turn takes one from the line of its queue, and none from another
  length-turn : (queue : ℕ) (name : JobId) (before : Journal T) → EachNote (MayStand terms) before → (picked : ℕ) → IsTurnOf terms.burst name picked before →
      length (line queue before) ≡ length (names_but name (line queue before)) + number_if (is_number queue (queue_of name before))
  length-turn queue name before notes picked turn = rw its (by_test (queue == picked) refl)
    where
      its : queue_of name before ≡ Some picked
      its = (known_of terms before notes).line_queue picked name (first_in_line terms name picked before turn)

      by_test : (test : Bool) → (queue == picked) ≡ test →
          length (line queue before) ≡ length (names_but name (line queue before)) + number_if test
      by_test true same =
          let here : line queue before ≡ name ∷ turn.others = rw (eqb-true queue picked same) turn.first in
          let left = names_but-turn terms before notes queue name turn.others here in
          rw (left, here) (omega arith)
      by_test false other =
          let left = names_but-turn_elsewhere terms before notes queue picked name turn.others turn.first (eqb-false queue picked other) in
          rw left (omega arith)

  -- what entered a queue has left it, waits in its line, or is out
  pub counts_agree : (queue : ℕ) (journal : Journal T) → EachNote (MayStand terms) journal → JobsAddUp queue journal
  counts_agree queue [] notes = refl
  counts_agree queue (note ∷ before) notes = by_note note notes.0.may_follow (counts_agree queue before notes.1)
    where
      stays : (note : Note T) → MayFollow terms note before → queue_of_first (jobs_out before) (note ∷ before) ≡ queue_out before
      stays note law = queue_out-stays note before law (known_of terms before notes.1)

      nobody : (name : JobId) (picked : ℕ) → IsTurnOf terms.burst name picked before → jobs_out before ≡ []
      nobody name picked turn = nobody_at_turn terms before notes.1 name picked turn

      -- who is parked no longer is in the line
      woken : (note : Note T) → length (with_all (line queue before) (unparked queue note (parked queue before))) + length (still_parked queue note (parked queue before)) ≡ length (line queue before) + length (parked queue before)
      woken note = omega (arith, length-with_all (line queue before) (unparked queue note (parked queue before)), length-parks queue note (parked queue before))

      by_note : (note : Note T) → MayFollow terms note before → JobsAddUp queue before → JobsAddUp queue (note ∷ before)
      by_note (Took name into) law agrees =
          rw (stays (Took name into) law) (omega (arith, length-with_last_if (line queue before) name (queue == into)))
      by_note (Start name) law agrees =
          let were : number_if (is_number queue (queue_out before)) ≡ 0 = rw (nobody name law.0 law.1) in
          rw (jobs_out-start name before (nobody name law.0 law.1)) (omega (arith, length-turn queue name before notes.1 law.0 law.1))
      by_note (Resume name) law agrees =
          let were : number_if (is_number queue (queue_out before)) ≡ 0 = rw (nobody name law.0 law.1) in
          rw (jobs_out-resume name before (nobody name law.0 law.1)) (omega (arith, length-turn queue name before notes.1 law.0 law.1))
      by_note (Returned name reason) law agrees =
          rw (stays (Returned name reason) law) (omega (arith, length-turn queue name before notes.1 law.0 law.1))
      by_note (Yield name time) law agrees =
          let were : queue_out before ≡ queue_of name before = queue_out-alone name before law in
          rw (names_but-alone name before law)
          (omega (arith, ap (λ its. number_if (is_number queue its)) were, length-with_last_if (line queue before) name (is_number queue (queue_of name before))))
      by_note (Stayed name time) law agrees =
          let were : queue_out before ≡ queue_of name before = queue_out-alone name before law.0 in
          rw (names_but-alone name before law.0)
          (omega (arith, ap (λ its. number_if (is_number queue its)) were, length-with_last_if (line queue before) name (is_number queue (queue_of name before))))
      by_note (Park name time) law agrees =
          let were : queue_out before ≡ queue_of name before = queue_out-alone name before law.0 in
          rw (names_but-alone name before law.0, parked-kept terms queue (Park name time) before law (known_of terms before notes.1))
          (omega (arith, ap (λ its. number_if (is_number queue its)) were, length-with_last_if (parked queue before) name (is_number queue (queue_of name before))))
      by_note (Woken name) law agrees = rw (stays (Woken name) law) (omega (arith, woken (Woken name)))
      by_note (QueueClosed other mode) law agrees = rw (stays (QueueClosed other mode) law) (omega (arith, woken (QueueClosed other mode)))
      by_note (CoreClosed mode) law agrees = rw (stays (CoreClosed mode) law) (omega (arith, woken (CoreClosed mode)))
      by_note (Done name time value) law agrees =
          let were : queue_out before ≡ queue_of name before = queue_out-alone name before law in
          rw (names_but-alone name before law)
          (omega (arith, ap (λ its. number_if (is_number queue its)) were, ap length (line-done terms before notes.1 queue time value name law)))
      by_note note law agrees = rw (stays note law) (omega arith)
