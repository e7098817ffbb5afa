-- With a burst of one each definition is that of turns of a single poll.
use Rattle.base_words.proofs.Words.{charge, charge_noted, cond, inl, inr, is_number, IsOfTheTurn, IsTurnEnd, IsTurnOf, JobId, Journal, None, queue_in_turn, queue_just_picked, queue_of, refl, shares, Some, true, ℕ, ◌≡◌}
use Rattle.base_words.specs.declared.note.Note.TheVariants.{Start, Resume, Yield, Done, Turned}
use Rattle.base_words.specs.Picks.{takes_turn, queue_served}

module _ {T : Type 0} (before : Journal T) where
  -- no turn is ever open
  single-in_turn : queue_in_turn 1 before ≡ None
  single-in_turn = refl

  -- each settled poll is charged
  single-yield : (queue time : ℕ) (name : JobId) → charge_noted 1 queue (Yield name time) before ≡ cond (is_number queue (queue_of name before)) (charge time (shares queue before)) 0
  single-yield queue time name = refl

  single-done : (queue time : ℕ) (name : JobId) (value : T) → charge_noted 1 queue (Done name time value) before ≡ cond (is_number queue (queue_of name before)) (charge time (shares queue before)) 0
  single-done queue time name value = refl

  -- and nothing else
  single-turned : (queue other time : ℕ) → charge_noted 1 queue (Turned other time) before ≡ 0
  single-turned queue other time = refl

  -- each poll takes the turn of a pick
  single-start : (name : JobId) → (takes_turn 1 (Start name) before ≡ true) × (queue_served 1 (Start name) before ≡ queue_of name before)
  single-start name = (refl, refl)

  single-resume : (name : JobId) → (takes_turn 1 (Resume name) before ≡ true) × (queue_served 1 (Resume name) before ≡ queue_of name before)
  single-resume name = (refl, refl)

  -- of the queue that was just picked
  single-turn : (name : JobId) (queue : ℕ) → IsTurnOf 1 name queue before → queue_just_picked before ≡ Some queue
  single-turn name queue turn = elim turn.due [ inl picked ↦ picked | inr goes ↦ let none : None ≡ Some queue = goes.in_turn in cc ]

  -- and no note of its own ends it
  single-not_ended : (queue time : ℕ) → IsTurnEnd 1 queue time before → ⊥
  single-not_ended queue time ends = let none : None ≡ Some queue = ends.in_turn in cc

  single-unsound : (queue time : ℕ) → IsOfTheTurn 1 queue time before → ⊥
  single-unsound queue time ends = let none : None ≡ Some queue = ends.its_queue in cc
