-- A job that goes out for a poll, by a pick or in the open turn, and what the poll owes of it.
use Rattle.model_world.proofs.Words.{◌≡◌, ℕ, ◌+◌, Bool, true, false, List, [], ◌∷◌, sym, ◌∙◌, ap, subst, Some, None, JobId, Note, Whole, Journal, Meaning, RecordedView}
use Rattle.model_world.proofs.Words.{Fits, out_of, kept_by_sender, Job, line, return_reason, name_started, is_told, polls_made, poll_note, order_taken, with_notes}
use Rattle.std.proofs.Common.{add-zero}
use Rattle.std.proofs.lemmas.Option.{same_Some}
use Rattle.base_words.specs.Parks.{is_wake_kept}
use Rattle.base_words.specs.declared.note.Note.TheVariants as writes
use Rattle.core_core.specs.declared.turn.Settled.{Settled}
use Rattle.actor_desk.specs.Calls.{Does}
use Rattle.actor_core.specs.Turns.{IsFurther, IsPick}
use Rattle.actor_core.specs.Whole.{Begins, IsPostingTurn}
use Rattle.actor_core.proofs.SentNotes.{all_posted}

-- the notes with which a poll begins settle none
polls_made-picked : {T : Type 0} (name which : JobId) (queue runtime : ℕ) (was_started : Bool) (notes : Journal T) →
    polls_made which (poll_note name was_started ∷ writes.Pick queue runtime ∷ notes) ≡ polls_made which notes
polls_made-picked name which queue runtime false notes = add-zero (polls_made which notes + 0) ∙ add-zero (polls_made which notes)
polls_made-picked name which queue runtime true notes = add-zero (polls_made which notes + 0) ∙ add-zero (polls_made which notes)

polls_made-begun : {T : Type 0} (name which : JobId) (was_started : Bool) (notes : Journal T) → polls_made which (poll_note name was_started ∷ notes) ≡ polls_made which notes
polls_made-begun name which false notes = add-zero (polls_made which notes)
polls_made-begun name which true notes = add-zero (polls_made which notes)

-- a job goes out for a poll: it is the first of its line, nothing hands it back, and the note of the poll stands behind these
pub record GoesBehind {J T : Type 0} (begun : List (Note T)) (old : RecordedView J T) (name : JobId) (queue : ℕ) (was_started : Bool) (job : J) (new : RecordedView J T) : Type 0 where
  pub others : List JobId
  pub first : line queue old.journal.notes ≡ name ∷ others
  pub kept : return_reason queue old.journal.notes ≡ None
  pub started : was_started ≡ is_told name_started name old.journal.notes
  pub journal : new.journal ≡ with_notes (poll_note name was_started ∷ begun) old.journal
  pub out : new.core.out ≡ Some (record { name = name; queue = queue; woken = is_wake_kept name old.journal.notes; job = job })
  pub took : new.took ≡ old.took
  pub unpolled : polls_made name new.journal.notes ≡ polls_made name old.journal.notes

module _ {J T : Type 0} {old new : RecordedView J T} {name : JobId} {queue : ℕ} {was_started : Bool} {job : J} where
  -- by a pick, or in the open turn
  pub picked_behind : (picks : IsPick old name queue was_started job new) → GoesBehind (writes.Pick queue picks.runtime ∷ []) old name queue was_started job new
  picked_behind picks = record {
    others = picks.others;
    first = picks.first;
    kept = picks.kept;
    started = picks.started;
    journal = picks.journal;
    out = picks.out;
    took = picks.took;
    unpolled = ap (λ journal. polls_made name journal.notes) picks.journal ∙ polls_made-picked name name queue picks.runtime was_started old.journal.notes;
  }

  pub further_behind : IsFurther old name queue was_started job new → GoesBehind [] old name queue was_started job new
  further_behind goes = record {
    others = goes.others;
    first = goes.first;
    kept = goes.kept;
    started = goes.started;
    journal = goes.journal;
    out = goes.out;
    took = goes.took;
    unpolled = ap (λ journal. polls_made name journal.notes) goes.journal ∙ polls_made-begun name name was_started old.journal.notes;
  }

-- a poll of a job that went out so
module _ {J : Type 0} {meaning : Meaning J ℕ} {begins : Begins J ℕ} {tells : ℕ → Type 0} {old new : RecordedView J ℕ} {row later : List (Whole J ℕ)} {name : JobId} {queue : ℕ} {started : Bool}
    {settled : Settled ℕ} {begun : List (Note ℕ)}
    (did : IsPostingTurn meaning begins (Does (Fits meaning) out_of (λ link. link.credited) kept_by_sender) out_of kept_by_sender tells old row name queue started settled new later)
    (goes : GoesBehind begun old name queue started did.ran.before did.picked) where
  -- the job that is settled is the one that went out
  pub out_is : did.settles.out ≡ record { name = name; queue = queue; woken = is_wake_kept name old.journal.notes; job = did.ran.before }
  out_is = same_Some _ _ (sym did.settles.was_out ∙ (ap (λ view. view.core.out) did.rest ∙ goes.out))

  counted : polls_made did.settles.out.name did.left.journal.notes ≡ polls_made name old.journal.notes
  counted =
      ap (λ out. polls_made out.name did.left.journal.notes) out_is
      ∙ (ap (λ desk. polls_made name desk.journal.notes) did.posted.desk
      ∙ ((all_posted did.posted.notes did.picked.journal.notes did.posted.posts).polls name ∙ goes.unpolled))

  -- what the poll owed of the job that was in the core, it owes of the one that was sent
  pub poll_owed : meaning.polls did.settles.sent (meaning.made did.settles.sent + polls_made name old.journal.notes) did.owed.calls did.ran.step did.ran.told
  poll_owed = subst (λ count. meaning.polls did.settles.sent (meaning.made did.settles.sent + count) did.owed.calls did.ran.step did.ran.told) counted (did.settles.owed did.owed.calls did.owed.owed)

  pub poll_task : order_taken old.took name ≡ Some (Job queue did.settles.sent)
  poll_task =
      ap (λ took. order_taken took name) (sym (ap (λ view. view.took) did.rest ∙ goes.took))
      ∙ (ap (λ out. order_taken did.left.took out.name) (sym out_is) ∙ (did.settles.task ∙ ap (λ out. Some (Job out.queue did.settles.sent)) out_is))
