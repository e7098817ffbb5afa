-- Each note of a lawful journal can be spelled: what it names is within its range.
use Rattle.base_words.proofs.Words.{and_parts, AreSpelledNotes, arith, Bool, cond, created_count, EachNote, entered_count, eqb-true, false, has_bursts, has_work, is_number, is_some, is_told, IsNextDelivered, IsReceived, IsSpelledNote}
use Rattle.base_words.proofs.Words.{IsTurnEnd, IsTurnOf, JobId, jobs_out, Journal, leb-true, left_count, length, list_told, ltb-true, MayFollow, MayStand, most_queues, name_ended, None, not, Note, number_if, Option, or_else, parked}
use Rattle.base_words.proofs.Words.{queue_begun_last, queue_created, queue_entered, queue_joined, queue_just_picked, queue_of, refl, refusal, same_name, same_Some, Some, subst, sym, Terms, time_summed, true, ℕ, [], ◌+◌, ◌<◌, ◌==◌, ◌∙◌, ◌∷◌}
use Rattle.base_words.proofs.Words.{◌≡◌, ◌≤◌}
use Rattle.std.specs.Prelude.{length}
use Rattle.base_words.specs.declared.note.Note.TheVariants.{Sent, Took, Back, Answered, Created, SharesSet, Pick, Start, Resume, Yield, Park, Stayed, Woken, Done, Returned, QueueClosed, CoreClosed, Shut, Collected, Redeemed, Detached, Turned}
use Rattle.base_words.proofs.Collected.{accepted_own, collected_own, fitting_spelled}
use Rattle.base_words.proofs.JobsOut.{alone_out, nobody_at_turn, jobs_out-start, jobs_out-resume}
use Rattle.base_words.proofs.Known.{known_of, first_in_line}
use Rattle.base_words.proofs.NameLemmas.{one_name}
use Rattle.base_words.proofs.RuntimeBound.{no_runtime_wraps}
use Rattle.base_words.proofs.Told.{length-with_last}
use Rattle.base_words.proofs.SpelledAnswers.{back_reason, returning, queue_there, answer_spelled}

module _ {T : Type 0} (terms : Terms) where
  -- a core has 256 queues at most
  pub few_created : (journal : Journal T) → EachNote (MayStand terms) journal → created_count journal ≤ 255
  few_created [] notes = omega arith
  few_created (note ∷ before) notes = by_note note notes.0.may_follow (few_created before notes.1)
    where
      by_note : (note : Note T) → MayFollow terms note before → created_count before ≤ 255 → created_count (note ∷ before) ≤ 255
      by_note (Created queue weight) law few =
          let count = length-with_last (list_told (queue_created {T = T}) before) (Some queue) in
          omega (arith, count, law.next, law.in_range)
      by_note _ law few = few

  -- a name that is delivered now is within its ranges
  received_now : (name : JobId) (before : Journal T) → IsNextDelivered terms name before → terms.actor < terms.cores → IsReceived terms name
  received_now name before next core = (
    record { sender = next.sender; receiver = rw next.receiver core; positive = omega (arith, next.next); in_range = omega (arith, next.in_range) },
    next.receiver,
  )

  -- a job enters a queue that there may be
  taken_below : (name : JobId) (queue : ℕ) (before : Journal T) → EachNote (MayStand terms) before → refusal queue before ≡ None → queue < most_queues
  taken_below name queue before notes enters =
      let there : queue ≤ created_count before = leb-true queue (created_count before) (queue_there _ _ enters) in
      omega (arith, few_created before notes)

  -- a job that entered has a name within its ranges
  pub entered_received : (name : JobId) (journal : Journal T) → EachNote (MayStand terms) journal → is_some (queue_of name journal) ≡ true → IsReceived terms name
  entered_received name [] notes entered = cc
  entered_received name (note ∷ before) notes entered = by_note note notes.0 (entered_received name before notes.1) entered
    where
      by_note : (note : Note T) → MayStand terms note before → (is_some (queue_of name before) ≡ true → IsReceived terms name) →
          is_some (or_else (queue_entered name note) (queue_of name before)) ≡ true → IsReceived terms name
      by_note (Took other queue) law was entered = by_test (same_name name other) refl entered
        where
          by_test : (test : Bool) → same_name name other ≡ test → is_some (or_else (cond test (Some queue) None) (queue_of name before)) ≡ true → IsReceived terms name
          by_test true same entered = subst (λ one. IsReceived terms one) (sym (one_name name other same)) (received_now other before law.may_follow.0 law.writer)
          by_test false same entered = was entered
      by_note _ law was entered = was entered

  -- a queue that a job entered is one of those that there may be
  entered_below : (queue : ℕ) (journal : Journal T) → EachNote (MayStand terms) journal → 0 < entered_count queue journal → queue < most_queues
  entered_below queue [] notes some = absurd (omega arith)
  entered_below queue (note ∷ before) notes some = by_note note notes.0 (entered_below queue before notes.1) some
    where
      by_note : (note : Note T) → MayStand terms note before → (0 < entered_count queue before → queue < most_queues) →
          0 < entered_count queue before + number_if (is_number queue (queue_joined note)) → queue < most_queues
      by_note (Took name into) law was some = by_test (queue == into) refl some
        where
          by_test : (test : Bool) → (queue == into) ≡ test → 0 < entered_count queue before + number_if test → queue < most_queues
          by_test true same some = rw (eqb-true queue into same) (taken_below name into before notes.1 law.may_follow.1)
          by_test false same some = was (omega arith)
      by_note _ law was some = was (omega arith)

  -- a queue with work is one of those that there may be
  worked_below : (queue : ℕ) (before : Journal T) → EachNote (MayStand terms) before → has_work queue before ≡ true → queue < most_queues
  worked_below queue before notes work =
      let more : left_count queue before + length (parked queue before) < entered_count queue before = ltb-true _ _ work in
      entered_below queue before notes (omega arith)

  -- so is one that was just picked
  picked_below : (queue : ℕ) (journal : Journal T) → EachNote (MayStand terms) journal → queue_just_picked journal ≡ Some queue → queue < most_queues
  picked_below queue [] notes picked = cc
  picked_below queue (Pick other runtime ∷ before) notes picked =
      let one : other ≡ queue = same_Some other queue picked in
      rw (← one) (worked_below other before notes.1 notes.0.may_follow.right.eligible.work)
  picked_below queue (_ ∷ before) notes picked = cc

  -- the job of a turn has a name within its ranges
  turn_received : (name : JobId) (queue : ℕ) (before : Journal T) → EachNote (MayStand terms) before → IsTurnOf terms.burst name queue before → IsReceived terms name
  turn_received name queue before notes turn =
      entered_received name before notes ((known_of terms before notes).line_inside queue name (first_in_line terms name queue before turn)).entered

  -- so does the job that is out
  out_received : (name : JobId) (before : Journal T) → EachNote (MayStand terms) before → jobs_out before ≡ name ∷ [] → IsReceived terms name
  out_received name before notes alone = entered_received name before notes ((known_of terms before notes).out_inside name (alone_out name before alone)).entered

  -- a queue whose turn is open is one of those that there may be
  begun_below : (queue : ℕ) (journal : Journal T) → EachNote (MayStand terms) journal → queue_begun_last journal ≡ Some queue → queue < most_queues
  begun_below queue [] notes begun = cc
  begun_below queue (note ∷ before) notes begun = by_note note notes.0 (begun_below queue before notes.1) begun
    where
      by_pick : (picked : Option ℕ) → queue_just_picked before ≡ picked → (queue_begun_last before ≡ Some queue → queue < most_queues) →
          or_else picked (queue_begun_last before) ≡ Some queue → queue < most_queues
      by_pick None at was begun = was begun
      by_pick (Some other) at was begun = picked_below queue before notes.1 (at ∙ begun)

      by_note : (note : Note T) → MayStand terms note before → (queue_begun_last before ≡ Some queue → queue < most_queues) →
          queue_begun_last (note ∷ before) ≡ Some queue → queue < most_queues
      by_note (Start name) law was begun = by_pick (queue_just_picked before) refl was begun
      by_note (Resume name) law was begun = by_pick (queue_just_picked before) refl was begun
      by_note (Pick other runtime) law was begun = cc
      by_note (Turned other time) law was begun = cc
      by_note _ law was begun = was begun

  -- an open turn has a poll that is out, or some time
  some_time : (journal : Journal T) → EachNote (MayStand terms) journal →
      number_if (is_some (queue_begun_last journal)) ≤ length (jobs_out journal) + time_summed journal
  some_time [] notes = omega arith
  some_time (note ∷ before) notes = by_note note notes.0.may_follow (some_time before notes.1)
    where
      small : (test : Bool) → number_if test ≤ 1
      small true = omega arith
      small false = omega arith

      by_note : (note : Note T) → MayFollow terms note before → number_if (is_some (queue_begun_last before)) ≤ length (jobs_out before) + time_summed before →
          number_if (is_some (queue_begun_last (note ∷ before))) ≤ length (jobs_out (note ∷ before)) + time_summed (note ∷ before)
      by_note (Start name) law was =
          rw (jobs_out-start name before (nobody_at_turn terms before notes.1 name law.0 law.1))
          (omega (arith, small (is_some (or_else (queue_just_picked before) (queue_begun_last before)))))
      by_note (Resume name) law was =
          rw (jobs_out-resume name before (nobody_at_turn terms before notes.1 name law.0 law.1))
          (omega (arith, small (is_some (or_else (queue_just_picked before) (queue_begun_last before)))))
      by_note (Yield name time) law was = omega (arith, small (is_some (queue_begun_last before)))
      by_note (Park name time) law was = omega (arith, small (is_some (queue_begun_last before)))
      by_note (Stayed name time) law was = omega (arith, small (is_some (queue_begun_last before)))
      by_note (Done name time value) law was = omega (arith, small (is_some (queue_begun_last before)))
      by_note (Pick queue runtime) law was = omega arith
      by_note (Turned queue time) law was = omega arith
      by_note _ law was = omega (arith, was)

  -- what ends a turn can be spelled
  turn_spelled : (queue time : ℕ) (before : Journal T) → EachNote (MayStand terms) before → IsTurnEnd terms.burst queue time before → terms.actor < terms.cores →
      IsSpelledNote {T = T} terms (Turned queue time)
  turn_spelled queue time before notes law core = by_form (has_bursts terms.burst) refl
    where
      by_form : (form : Bool) → has_bursts terms.burst ≡ form → IsSpelledNote {T = T} terms (Turned queue time)
      by_form false form = let none : None ≡ Some queue = rw form at law.in_turn in cc
      by_form true form =
          let begun : queue_begun_last before ≡ Some queue = rw form at law.in_turn in
          let one : number_if (is_some (queue_begun_last before)) ≡ 1 = rw begun in
          let nobody : length (jobs_out before) ≡ 0 = rw law.nobody_out in
          (core, begun_below queue before notes begun, omega (arith, law.its_time, some_time before notes), omega (arith, law.its_time), form)

  -- each note of a lawful journal can be spelled
  pub lawful_is_spelled : (journal : Journal T) → terms.actor ≤ terms.cores → EachNote (MayStand terms) journal → AreSpelledNotes terms journal
  lawful_is_spelled [] actor notes = tt
  lawful_is_spelled (note ∷ before) actor notes = (by_note note notes.0, lawful_is_spelled before actor notes.1)
    where
      by_note : (note : Note T) → MayStand terms note before → IsSpelledNote terms note
      by_note (Sent name order) law = (
        (
          record {
            sender = rw law.may_follow.sender actor;
            receiver = law.may_follow.receiver;
            positive = omega (arith, law.may_follow.next);
            in_range = omega (arith, law.may_follow.in_range);
          },
          law.may_follow.sender,
        ),
        law.may_follow.spelled,
      )
      by_note (Took name queue) law =
          (received_now name before law.may_follow.0 law.writer, taken_below name queue before notes.1 law.may_follow.1)
      by_note (Back name reason) law = (received_now name before law.may_follow.0 law.writer, back_reason _ _ _ reason law.may_follow.1.1)
      by_note (Answered name answer) law =
          (received_now name before law.may_follow.0 law.writer, answer_spelled name.to law.may_follow.1.0 answer before law.may_follow.1.1)
      by_note (Created queue weight) law = (law.writer, law.may_follow.in_range, law.may_follow.shares)
      by_note (SharesSet queue weight) law = (law.writer, omega (arith, law.may_follow.0, few_created before notes.1), law.may_follow.1)
      by_note (Pick queue runtime) law = (
        law.writer,
        worked_below queue before notes.1 law.may_follow.right.eligible.work,
        omega (arith, law.may_follow.right.at, law.may_follow.turn_left, no_runtime_wraps terms queue before notes.1),
      )
      by_note (Start name) law = turn_received name law.may_follow.0 before notes.1 law.may_follow.1
      by_note (Resume name) law = turn_received name law.may_follow.0 before notes.1 law.may_follow.1
      by_note (Returned name reason) law =
          (turn_received name law.may_follow.0 before notes.1 law.may_follow.1, returning _ _ reason law.may_follow.2)
      by_note (Yield name time) law = out_received name before notes.1 law.may_follow
      by_note (Park name time) law = out_received name before notes.1 law.may_follow.0
      by_note (Stayed name time) law = out_received name before notes.1 law.may_follow.0
      by_note (Woken name) law = entered_received name before notes.1 (and_parts (is_some (queue_of name before)) (not (is_told name_ended name before)) law.may_follow).0
      by_note (Done name time value) law = out_received name before notes.1 law.may_follow
      by_note (Turned queue time) law = turn_spelled queue time before notes.1 law.may_follow law.writer
      by_note (QueueClosed queue mode) law = (law.writer, omega (arith, law.may_follow.0, few_created before notes.1))
      by_note (CoreClosed mode) law = law.writer
      by_note (Shut sender count) law = (law.writer, law.may_follow.known, omega (arith, law.may_follow.in_range))
      by_note (Collected name outcome) law =
          (accepted_own terms name law.may_follow.order before actor notes.1 law.may_follow.accepted, fitting_spelled law.may_follow.order outcome law.may_follow.fits)
      by_note (Redeemed name outcome) law = collected_own terms name outcome before actor notes.1 law.may_follow.collected
      by_note (Detached name) law = accepted_own terms name law.may_follow.order before actor notes.1 law.may_follow.accepted
