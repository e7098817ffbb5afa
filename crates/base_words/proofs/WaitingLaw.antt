-- In a lawful journal the jobs that wait are those of the queue's line and the parked ones.
use Rattle.base_words.proofs.Words.{ap, arith, begun_count, EachNote, is_number, IsTurnOf, JobId, jobs_out, Journal, length, line, MayFollow, MayStand, Note, number_if, parked, queue_of, queue_of_first, queue_out, refl, settled_count}
use Rattle.base_words.proofs.Words.{Terms, waiting_count, ℕ, [], ◌+◌, ◌∷◌, ◌≡◌}
use Rattle.base_words.specs.declared.note.Note.TheVariants.{Start, Resume, Yield, Park, Stayed, Done}
use Rattle.base_words.proofs.Counts.{queue_out-alone, queue_out-stays, counts_agree}
use Rattle.base_words.proofs.JobsOut.{nobody_at_turn, jobs_out-start, jobs_out-resume, names_but-alone}
use Rattle.base_words.proofs.Known.{known_of}

module _ {T : Type 0} (terms : Terms) (queue : ℕ) where
  -- a poll that was begun is settled, or its job is out
  polls_agree : (journal : Journal T) → EachNote (MayStand terms) journal →
      begun_count queue journal ≡ settled_count queue journal + number_if (is_number queue (queue_out journal))
  polls_agree [] notes = refl
  polls_agree (note ∷ before) notes = by_note note notes.0.may_follow (polls_agree before notes.1)
    where
      stays : (note : Note T) → MayFollow terms note before → queue_of_first (jobs_out before) (note ∷ before) ≡ queue_out before
      stays note law = queue_out-stays terms note before law (known_of terms before notes.1)

      nobody : (name : JobId) (picked : ℕ) → IsTurnOf terms.burst name picked before → jobs_out before ≡ []
      nobody name picked turn = nobody_at_turn terms before notes.1 name picked turn

      by_note : (note : Note T) → MayFollow terms note before →
          begun_count queue before ≡ settled_count queue before + number_if (is_number queue (queue_out before)) →
          begun_count queue (note ∷ before) ≡ settled_count queue (note ∷ before) + number_if (is_number queue (queue_out (note ∷ before)))
      by_note (Start name) law agrees =
          let were : number_if (is_number queue (queue_out before)) ≡ 0 = rw (nobody name law.0 law.1) in
          rw (jobs_out-start name before (nobody name law.0 law.1)) (omega (arith, agrees, were))
      by_note (Resume name) law agrees =
          let were : number_if (is_number queue (queue_out before)) ≡ 0 = rw (nobody name law.0 law.1) in
          rw (jobs_out-resume name before (nobody name law.0 law.1)) (omega (arith, agrees, were))
      by_note (Yield name time) law agrees =
          let were : queue_out before ≡ queue_of name before = queue_out-alone name before law in
          rw (names_but-alone name before law) (omega (arith, agrees, ap (λ its. number_if (is_number queue its)) were))
      by_note (Park name time) law agrees =
          let were : queue_out before ≡ queue_of name before = queue_out-alone name before law.0 in
          rw (names_but-alone name before law.0) (omega (arith, agrees, ap (λ its. number_if (is_number queue its)) were))
      by_note (Stayed name time) law agrees =
          let were : queue_out before ≡ queue_of name before = queue_out-alone name before law.0 in
          rw (names_but-alone name before law.0) (omega (arith, agrees, ap (λ its. number_if (is_number queue its)) were))
      by_note (Done name time value) law agrees =
          let were : queue_out before ≡ queue_of name before = queue_out-alone name before law in
          rw (names_but-alone name before law) (omega (arith, agrees, ap (λ its. number_if (is_number queue its)) were))
      by_note note law agrees = rw (stays note law) (omega (arith, agrees))

  pub waiting_is_line : (journal : Journal T) → EachNote (MayStand terms) journal → waiting_count queue journal ≡ length (line queue journal) + length (parked queue journal)
  waiting_is_line journal notes = omega (arith, polls_agree journal notes, counts_agree terms queue journal notes)
