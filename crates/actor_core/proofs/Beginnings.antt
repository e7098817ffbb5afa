-- How a poll begins: by a pick, or in the open turn. What either tells of the notes, of the turn and of the job that is out; and what the poll leaves of its turn.
use Rattle.actor_core.proofs.Names.{◌≡◌, ◌⊎◌, inl, inr, ℕ, ◌+◌, Bool, true, false, List, [], ◌∷◌, ◌++◌, Some, None, refl, sym, ◌∙◌, ap, subst, arith, cond, add-zero}
use Rattle.actor_core.proofs.Names.{ArePosts, JobId, Journal, Note, RecordedView, Settled, is_wake_kept, poll_note, settle_note, or_else}
use Rattle.actor_core.proofs.AgreementNames.{begun_if_open, has_bursts, polls_in_turn, queue_begun_last, queue_just_picked}
use Rattle.base_words.specs.declared.note.Note.TheVariants as writes
use Rattle.base_words.specs.Lawful.{GoesOn}
use Rattle.core_core.specs.declared.turn.Settled.TheVariants as came
use Rattle.actor_core.specs.Turns.{IsPick, IsFurther}
use Rattle.actor_core.specs.Whole.{LeavesTurn}
use Rattle.actor_core.proofs.OwedNotes.{SettleNothing}

-- the job is out; behind what was noted stand notes that settle nothing, the last of which begins the poll
pub record IsBeginning {J T : Type 0} (old : RecordedView J T) (name : JobId) (queue : ℕ) (started : Bool) (job : J) (new : RecordedView J T) : Type 0 where
  pub before : List (Note T)
  pub quiet : SettleNothing before
  pub due : (queue_just_picked (before ++ old.journal.notes) ≡ Some queue) ⊎ GoesOn old.core.bursts.burst queue (before ++ old.journal.notes)
  pub notes : new.journal.notes ≡ poll_note name started ∷ before ++ old.journal.notes
  pub out : new.core.out ≡ Some (record { name = name; queue = queue; woken = is_wake_kept name old.journal.notes; job = job })
  pub took : new.took ≡ old.took

-- the turn of the queue was begun last, and has had so many polls
pub record StandsInTurn {T : Type 0} (queue polls : ℕ) (notes : Journal T) : Type 0 where
  pub turn : queue_begun_last notes ≡ Some queue
  pub polls_are : polls_in_turn notes ≡ polls

module _ {T : Type 0} (before : Journal T) (name : JobId) where
  -- the first poll behind a pick
  picked_turn : (queue runtime : ℕ) (started : Bool) → queue_begun_last (poll_note name started ∷ writes.Pick queue runtime ∷ before) ≡ Some queue
  picked_turn queue runtime false = refl
  picked_turn queue runtime true = refl

  picked_polls : (queue runtime : ℕ) (started : Bool) → polls_in_turn (poll_note name started ∷ writes.Pick queue runtime ∷ before) ≡ 1
  picked_polls queue runtime false = omega arith
  picked_polls queue runtime true = omega arith

  -- a further one
  further_turn : (queue : ℕ) (started : Bool) → queue_just_picked before ≡ None → queue_begun_last before ≡ Some queue → queue_begun_last (poll_note name started ∷ before) ≡ Some queue
  further_turn queue false none begun = ap (λ picked. or_else picked (queue_begun_last before)) none ∙ begun
  further_turn queue true none begun = ap (λ picked. or_else picked (queue_begun_last before)) none ∙ begun

  further_polls : (started : Bool) → polls_in_turn (poll_note name started ∷ before) ≡ polls_in_turn before + 1
  further_polls false = refl
  further_polls true = refl

module _ {J T : Type 0} (old : RecordedView J T) (name : JobId) (queue : ℕ) (started : Bool) (job : J) (new : RecordedView J T) where
  pub pick_begins : IsPick old name queue started job new → IsBeginning old name queue started job new
  pick_begins picks = record { before = writes.Pick queue picks.runtime ∷ []; quiet = (refl, tt); due = inl refl; notes = ap (λ journal. journal.notes) picks.journal; out = picks.out; took = picks.took }

  pub further_begins : IsFurther old name queue started job new → IsBeginning old name queue started job new
  further_begins further = record { before = []; quiet = tt; due = inr further.goes_on; notes = ap (λ journal. journal.notes) further.journal; out = further.out; took = further.took }

  -- and of which turn it is
  pub pick_in_turn : IsPick old name queue started job new → StandsInTurn queue 1 new.journal.notes
  pick_in_turn picks = subst (StandsInTurn queue 1) (sym (ap (λ journal. journal.notes) picks.journal))
      (record { turn = picked_turn old.journal.notes name queue picks.runtime started; polls_are = picked_polls old.journal.notes name queue picks.runtime started })

  pub further_in_turn : queue_just_picked old.journal.notes ≡ None → IsFurther old name queue started job new → StandsInTurn queue (polls_in_turn old.journal.notes + 1) new.journal.notes
  further_in_turn no_pick further = subst (StandsInTurn queue (polls_in_turn old.journal.notes + 1)) (sym (ap (λ journal. journal.notes) further.journal)) (record {
    turn = further_turn old.journal.notes name queue started no_pick (begun_if_open old.core.bursts.burst queue old.journal.notes further.goes_on.in_turn);
    polls_are = further_polls old.journal.notes name started;
  })

module _ {T : Type 0} where
  -- what is posted leaves the turn
  posts_in_turn : (posts : List (Note T)) (before : Journal T) → ArePosts posts → (queue_begun_last (posts ++ before) ≡ queue_begun_last before) × (polls_in_turn (posts ++ before) ≡ polls_in_turn before)
  posts_in_turn [] before are = (refl, refl)
  posts_in_turn (writes.Sent name order ∷ posts) before are = let rest = posts_in_turn posts before are in (rest.0, add-zero (polls_in_turn (posts ++ before)) ∙ rest.1)
  posts_in_turn (writes.Redeemed name outcome ∷ posts) before are = let rest = posts_in_turn posts before are in (rest.0, add-zero (polls_in_turn (posts ++ before)) ∙ rest.1)
  posts_in_turn (writes.Detached name ∷ posts) before are = let rest = posts_in_turn posts before are in (rest.0, add-zero (polls_in_turn (posts ++ before)) ∙ rest.1)
  posts_in_turn (_ ∷ posts) before are = absurd are

  -- and so does the note of the settling
  settled_in_turn : (name : JobId) (time : ℕ) (settled : Settled T) (before : Journal T) →
      (queue_begun_last (settle_note name time settled ∷ before) ≡ queue_begun_last before) × (polls_in_turn (settle_note name time settled ∷ before) ≡ polls_in_turn before)
  settled_in_turn name time came.Yielded before = (refl, add-zero (polls_in_turn before))
  settled_in_turn name time came.Parked before = (refl, add-zero (polls_in_turn before))
  settled_in_turn name time came.Stayed before = (refl, add-zero (polls_in_turn before))
  settled_in_turn name time (came.Finished value) before = (refl, add-zero (polls_in_turn before))

  -- behind a poll its turn is open, where turns may have several polls
  pub leaves_turn : (burst queue polls : ℕ) (name : JobId) (time : ℕ) (settled : Settled T) (posts : List (Note T)) → ArePosts posts → (before : Journal T) → StandsInTurn queue polls before →
      LeavesTurn burst queue polls (settle_note name time settled ∷ posts ++ before)
  leaves_turn burst queue polls name time settled posts are before stands =
      let last = settled_in_turn name time settled (posts ++ before) in
      let posted = posts_in_turn posts before are in
      record {
        queue_is = ap (λ begun. cond (has_bursts burst) begun None) (last.0 ∙ (posted.0 ∙ stands.turn));
        polls_are = last.1 ∙ (posted.1 ∙ stands.polls_are);
      }
