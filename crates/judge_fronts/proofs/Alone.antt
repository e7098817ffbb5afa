-- Starts and resumes that no journals of others make right.
use Rattle.judge_fronts.proofs.Names.{accepted_orders, ap, Assembly, IsAcceptedInside, Bool, cond, eq-eqb, false, first_under, is_some, is_told, IsAcceptedJob, IsWrongAlone, JobId, Journal, List, name_ended, name_started, None, or_else}
use Rattle.judge_fronts.proofs.Names.{queue_of, refl, same_as_itself, same_name, slice_get, Some, StartsRight, suc, true, unwrap_or, with_last, zero, ℕ, [], ◌∙◌, ◌∷◌, ◌≡◌, ◌||◌}
use Rattle.base_words.specs.declared.note.Note.TheVariants.{Sent, Took, Start, Resume}
use Rattle.base_words.specs.declared.order.Order.TheVariants.{Job}
use Rattle.judge_fronts.specs.Past.{name_entered}

-- who has a queue has entered
pub entered_told : (name : JobId) (journal : Journal ℕ) → is_some (queue_of name journal) ≡ is_told name_entered name journal
entered_told name [] = refl
entered_told name (Took other queue ∷ before) = by_test (same_name name other) (entered_told name before)
  where
    by_test : (test : Bool) → is_some (queue_of name before) ≡ is_told name_entered name before →
        is_some (or_else (cond test (Some queue) None) (queue_of name before)) ≡ (test || is_told name_entered name before)
    by_test true same = refl
    by_test false same = same
entered_told name (note ∷ before) = entered_told name before

-- one journal behind empty ones
abbrev pub behind_empty : ℕ → Journal ℕ → List (Journal ℕ)
behind_empty zero journal = journal ∷ []
behind_empty (suc place) journal = [] ∷ behind_empty place journal

pub behind_empty-there : (place : ℕ) (journal : Journal ℕ) → slice_get (behind_empty place journal) place ≡ Some journal
behind_empty-there zero journal = refl
behind_empty-there (suc place) journal = behind_empty-there place journal

-- journals in which this job is sent, and nothing else
abbrev sender_alone : JobId → Assembly ℕ
sender_alone name = record { cores = 1; cap = 1; burst = 1; journals = behind_empty name.from (Sent name (Job 0 tt) ∷ []) }

sent_alone : (name : JobId) → IsAcceptedJob name (sender_alone name)
sent_alone name = (
  0,
  ap (λ found. first_under name (accepted_orders name.to (unwrap_or found []))) (behind_empty-there name.from (Sent name (Job 0 tt) ∷ [])) ∙
      (
      ap (λ test. first_under name (with_last [] (cond test (Some (name, Job 0 tt)) None))) (eq-eqb name.to name.to refl) ∙
      ap (λ test. cond test (Some (Job 0 tt)) None) (same_as_itself name)
      ),
)

module _ (name : JobId) (before : Journal ℕ) (entered : is_some (queue_of name before) ≡ true) (going_on : is_told name_ended name before ≡ false) where
  inside_alone : IsAcceptedInside (sender_alone name) name before
  inside_alone = record { is_accepted = sent_alone name; has_entered = entered; has_not_ended = going_on }

  -- a job that is inside may start or resume, if others tell that it was sent
  pub may_start : is_told name_started name before ≡ false → IsWrongAlone StartsRight (Start name) before → ⊥
  may_start new wrong = wrong (sender_alone name) (inside_alone, new)

  pub may_resume : is_told name_started name before ≡ true → IsWrongAlone StartsRight (Resume name) before → ⊥
  may_resume started wrong = wrong (sender_alone name) (inside_alone, started)

-- what can't be false is true
pub true_unless : (test : Bool) → (test ≡ false → ⊥) → test ≡ true
true_unless true never = refl
true_unless false never = absurd (never refl)
