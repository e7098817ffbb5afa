-- The job that is out is of the turn that was begun last.
use Rattle.base_words.proofs.Words.{ap, Bool, cond, EachNote, false, GoesOn, has_bursts, inl, inr, IsTurnOf, JobId, jobs_out, Journal, MayFollow, MayStand, None, Note, or_else, queue_begun_last, queue_in_turn, queue_just_picked, queue_of}
use Rattle.base_words.proofs.Words.{queue_out, refl, Some, sym, Terms, true, ℕ, [], ◌∙◌, ◌∷◌, ◌≡◌}
use Rattle.base_words.specs.declared.note.Note.TheVariants.{Pick, Start, Resume, Yield, Park, Stayed, Done, Turned}
use Rattle.base_words.proofs.Counts.{queue_out-alone, queue_out-stays, queue_out-nobody}
use Rattle.base_words.proofs.JobsOut.{nobody_at_turn, jobs_out-start, jobs_out-resume, jobs_out-yield, jobs_out-park, jobs_out-stayed, jobs_out-done}
use Rattle.base_words.proofs.Known.{known_of, first_in_line}

-- an open turn was begun
pub begun_if_open : {T : Type 0} (burst queue : ℕ) (before : Journal T) → queue_in_turn burst before ≡ Some queue → queue_begun_last before ≡ Some queue
begun_if_open burst queue before its = by_form (has_bursts burst) its
  where
    by_form : (form : Bool) → cond form (queue_begun_last before) None ≡ Some queue → queue_begun_last before ≡ Some queue
    by_form true its = its
    by_form false its = cc

-- where turns may have several polls, a turn that was begun is open
pub open_if_begun : {T : Type 0} (burst : ℕ) (before : Journal T) → has_bursts burst ≡ true → queue_in_turn burst before ≡ queue_begun_last before
open_if_begun burst before form = rw form

module _ {T : Type 0} (terms : Terms) where
  -- a poll begins the turn of its pick, or goes on in the one that is open
  begun_by_poll : (name : JobId) (queue : ℕ) (before : Journal T) → IsTurnOf terms.burst name queue before →
      or_else (queue_just_picked before) (queue_begun_last before) ≡ Some queue
  begun_by_poll name queue before turn = elim turn.due [ inl picked ↦ rw picked | inr goes ↦ goes_on goes before refl ]
    where
      goes_on : GoesOn terms.burst queue before → (journal : Journal T) → journal ≡ before → or_else (queue_just_picked before) (queue_begun_last before) ≡ Some queue
      goes_on goes (Pick other runtime ∷ earlier) same =
          let begun : queue_begun_last before ≡ Some queue = begun_if_open terms.burst queue before goes.in_turn in
          let none : None ≡ Some queue = ap queue_begun_last same ∙ begun in
          cc
      goes_on goes [] same = rw (sym (ap queue_just_picked same)) (begun_if_open terms.burst queue before goes.in_turn)
      goes_on goes (note ∷ earlier) same = rw (sym (ap queue_just_picked same)) (begun_if_open terms.burst queue before goes.in_turn)

  -- the job that is out is of the turn that was begun last
  pub turn_of_out : (journal : Journal T) → EachNote (MayStand terms) journal → (queue : ℕ) → queue_out journal ≡ Some queue → queue_begun_last journal ≡ Some queue
  turn_of_out [] notes queue its = cc
  turn_of_out (note ∷ before) notes queue its = by_note note notes.0.may_follow its (turn_of_out before notes.1 queue)
    where
      nobody : (note : Note T) → jobs_out (note ∷ before) ≡ [] → queue_out (note ∷ before) ≡ Some queue → queue_begun_last (note ∷ before) ≡ Some queue
      nobody note alone its = let none : None ≡ Some queue = sym (queue_out-nobody (note ∷ before) alone) ∙ its in cc

      of_poll : (note : Note T) (name : JobId) (picked : ℕ) → IsTurnOf terms.burst name picked before → queue_of name before ≡ Some queue →
          or_else (queue_just_picked before) (queue_begun_last before) ≡ Some queue
      of_poll note name picked turn its =
          begun_by_poll name picked before turn ∙ sym ((known_of terms before notes.1).line_queue picked name (first_in_line terms name picked before turn)) ∙ its

      by_note : (note : Note T) → MayFollow terms note before → queue_out (note ∷ before) ≡ Some queue →
          (queue_out before ≡ Some queue → queue_begun_last before ≡ Some queue) → queue_begun_last (note ∷ before) ≡ Some queue
      by_note (Start name) law its was =
          let same = sym (queue_out-alone name (Start name ∷ before) (jobs_out-start name before (nobody_at_turn terms before notes.1 name law.0 law.1))) ∙ its in
          of_poll (Start name) name law.0 law.1 same
      by_note (Resume name) law its was =
          let same = sym (queue_out-alone name (Resume name ∷ before) (jobs_out-resume name before (nobody_at_turn terms before notes.1 name law.0 law.1))) ∙ its in
          of_poll (Resume name) name law.0 law.1 same
      by_note (Yield name time) law its was = nobody (Yield name time) (jobs_out-yield name time before law) its
      by_note (Park name time) law its was = nobody (Park name time) (jobs_out-park name time before law.0) its
      by_note (Stayed name time) law its was = nobody (Stayed name time) (jobs_out-stayed name time before law.0) its
      by_note (Done name time value) law its was = nobody (Done name time value) (jobs_out-done name time value before law) its
      by_note (Pick other runtime) law its was = nobody (Pick other runtime) law.right.eligible.nobody_out its
      by_note (Turned other time) law its was = nobody (Turned other time) law.nobody_out its
      by_note note law its was = was (sym (queue_out-stays terms note before law (known_of terms before notes.1)) ∙ its)
