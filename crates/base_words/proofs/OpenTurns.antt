-- An open turn: none is where a queue was just picked, so a turn that is taken there is that of the pick.
use Rattle.base_words.proofs.Words.{Bool, cond, false, has_bursts, inl, inr, is_some, IsTurnOf, JobId, Journal, None, Option, queue_in_turn, queue_just_picked, refl, Some, sym, true, ℕ, [], ◌∙◌, ◌∷◌, ◌≡◌}
use Rattle.base_words.specs.declared.note.Note.TheVariants.{Pick}

-- nothing is chosen of two that aren't there
pub none_either : (form : Bool) → ◌≡◌ {A = Option ℕ} (cond form None None) None
none_either true = refl
none_either false = refl

-- behind a pick no turn is open
pub no_turn_at_pick : {T : Type 0} (burst : ℕ) (before : Journal T) → is_some (queue_just_picked before) ≡ true → queue_in_turn burst before ≡ None
no_turn_at_pick burst [] picked = cc
no_turn_at_pick burst (Pick queue runtime ∷ before) picked = none_either (has_bursts burst)
no_turn_at_pick burst (_ ∷ before) picked = cc

-- so a turn that is taken there is that of the queue that was picked
pub turn_of_pick : {T : Type 0} (burst : ℕ) (name : JobId) (queue : ℕ) (before : Journal T) → IsTurnOf burst name queue before →
    is_some (queue_just_picked before) ≡ true → queue_just_picked before ≡ Some queue
turn_of_pick burst name queue before turn some =
    elim turn.due [
      | inl picked ↦ picked
      | inr goes ↦ let none : None ≡ Some queue = sym (no_turn_at_pick burst before some) ∙ goes.in_turn in cc
    ]
