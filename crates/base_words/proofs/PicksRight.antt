-- Picks: each pick of a lawful journal is right and is followed at once by a note that takes its turn; a poll is settled for the job that is out.
use Rattle.base_words.proofs.Words.{among, Bool, cond, EachNote, false, false_from_ne_true, GoesOn, inl, inr, is_parked, is_some, IsFurtherPoll, IsInItsTurn, IsOfNoParkedJob, IsOfTheJobOut, IsRightIfPick, IsSome, IsTurnOf, JobId, Journal}
use Rattle.base_words.proofs.Words.{MayFollow, MayStand, None, not, Note, Option, parked, PicksRight, queue_in_turn, queue_of, queue_served, refl, Some, sym, takes_turn, Terms, true, ℕ, [], ◌∙◌, ◌∷◌, ◌≡◌}
use Rattle.base_words.specs.declared.note.Note.TheVariants.{Pick, Start, Resume, Yield, Park, Stayed, Done, Returned, Turned}
use Rattle.base_words.specs.Clauses.{queue_just_picked}
use Rattle.base_words.proofs.Known.{known_of, first_in_line}
use Rattle.base_words.proofs.OpenTurns.{no_turn_at_pick, turn_of_pick}

-- what is not there is `None`
none_from : (queue : Option ℕ) → is_some queue ≡ false → queue ≡ None
none_from None none = refl
none_from (Some queue) none = cc

module _ {T : Type 0} (terms : Terms) where
  -- a pick that may stand is right
  right_if_pick : (note : Note T) (before : Journal T) → MayFollow terms note before → IsRightIfPick terms.burst note before
  right_if_pick (Pick queue runtime) before law = law.right
  right_if_pick _ before law = tt

  -- a poll that may be settled is that of the job that is out
  of_the_job_out : (note : Note T) (before : Journal T) → MayFollow terms note before → IsOfTheJobOut note before
  of_the_job_out (Yield name time) before law = law
  of_the_job_out (Park name time) before law = law
  of_the_job_out (Stayed name time) before law = law
  of_the_job_out (Done name time value) before law = law
  of_the_job_out _ before law = tt

  -- the job of a turn is of the queue that was picked
  picked_its_queue : (name : JobId) (queue : ℕ) (before : Journal T) → EachNote (MayStand terms) before → IsTurnOf terms.burst name queue before →
      is_some (queue_just_picked before) ≡ true → queue_just_picked before ≡ queue_of name before
  picked_its_queue name queue before notes turn some =
      turn_of_pick terms.burst name queue before turn some ∙ sym ((known_of terms before notes).line_queue queue name (first_in_line terms name queue before turn))

  -- a poll answers to the pick before it, or goes on in an open turn
  poll_followed : (name : JobId) (queue : ℕ) (before : Journal T) → EachNote (MayStand terms) before → IsTurnOf terms.burst name queue before →
      (going : Bool) → is_some (queue_just_picked before) ≡ not going → queue_just_picked before ≡ cond going None (queue_of name before)
  poll_followed name queue before notes turn true some = none_from (queue_just_picked before) some
  poll_followed name queue before notes turn false some = picked_its_queue name queue before notes turn some

  -- a further poll is of the turn that is open
  further_poll : (name : JobId) (queue : ℕ) (before : Journal T) → EachNote (MayStand terms) before → IsTurnOf terms.burst name queue before →
      IsSome (queue_in_turn terms.burst before) → IsFurtherPoll terms.burst name before
  further_poll name queue before notes turn open_turn = elim turn.due [ inl picked ↦ absurd (not_picked picked) | inr goes ↦ further goes ]
    where
      not_picked : queue_just_picked before ≡ Some queue → ⊥
      not_picked picked =
          let none : queue_in_turn terms.burst before ≡ None = no_turn_at_pick terms.burst before (rw picked) in
          let nothing : false ≡ true = rw none at open_turn in
          cc

      further : GoesOn terms.burst queue before → IsFurtherPoll terms.burst name before
      further goes = record {
        its_queue = (known_of terms before notes).line_queue queue name (first_in_line terms name queue before turn) ∙ sym goes.in_turn;
        nobody_out = goes.nobody_out;
        poll_left = goes.poll_left;
      }

  -- what stands in a turn is of it
  in_its_turn : (note : Note T) (before : Journal T) → EachNote (MayStand terms) before → MayFollow terms note before → IsInItsTurn terms.burst note before
  in_its_turn (Start name) before notes law = further_poll name law.0 before notes law.1
  in_its_turn (Resume name) before notes law = further_poll name law.0 before notes law.1
  in_its_turn (Turned queue time) before notes law = record { its_queue = law.in_turn; nobody_out = law.nobody_out; its_time = law.its_time }
  in_its_turn _ before notes law = tt

  -- nor is it parked
  awake_first : (name : JobId) (queue : ℕ) (before : Journal T) → EachNote (MayStand terms) before → IsTurnOf terms.burst name queue before → is_parked name before ≡ false
  awake_first name queue before notes turn =
      let known = known_of terms before notes in
      let first = first_in_line terms name queue before turn in
      rw (known.line_queue queue name first) (false_from_ne_true (among name (parked queue before)) (λ parks. known.waiting_not_parked queue name first parks))

  -- so no turn is of a parked job
  of_no_parked_job : (note : Note T) (before : Journal T) → EachNote (MayStand terms) before → MayFollow terms note before → IsOfNoParkedJob note before
  of_no_parked_job (Resume name) before notes law = awake_first name law.0 before notes law.1
  of_no_parked_job (Returned name reason) before notes law = awake_first name law.0 before notes law.1
  of_no_parked_job _ before notes law = tt

  -- a pick is followed by a turn of its queue, and nothing else is
  pick_followed : (note : Note T) (before : Journal T) → EachNote (MayStand terms) before → MayFollow terms note before →
      is_some (queue_just_picked before) ≡ takes_turn terms.burst note before → queue_just_picked before ≡ queue_served terms.burst note before
  pick_followed (Start name) before notes law turn = poll_followed name law.0 before notes law.1 (is_some (queue_in_turn terms.burst before)) turn
  pick_followed (Resume name) before notes law turn = poll_followed name law.0 before notes law.1 (is_some (queue_in_turn terms.burst before)) turn
  pick_followed (Returned name reason) before notes law turn = picked_its_queue name law.0 before notes law.1 turn
  pick_followed _ before notes law turn = none_from (queue_just_picked before) turn

  -- the fifth clause of soundness, note by note
  pub picks_right : (journal : Journal T) → EachNote (MayStand terms) journal → EachNote (PicksRight terms.burst) journal
  picks_right [] notes = tt
  picks_right (note ∷ before) notes = (
    record {
      right = right_if_pick note before notes.0.may_follow;
      turn = notes.0.turn;
      followed = pick_followed note before notes.1 notes.0.may_follow notes.0.turn;
      settles = of_the_job_out note before notes.0.may_follow;
      awake = of_no_parked_job note before notes.1 notes.0.may_follow;
      in_turn = in_its_turn note before notes.1 notes.0.may_follow;
    },
    picks_right before notes.1,
  )
