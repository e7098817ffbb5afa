-- That the fifth clause of soundness refuses the bad picks.
use Rattle.base_words.specs.BadPicks as bad
use Rattle.base_words.specs.Sound.{PicksAreSound}

-- none of them is sound
pub record PicksAreRefused : Type 0 where
  pub greater : PicksAreSound bad.second_picked → ⊥
  pub tie : PicksAreSound bad.tie_to_the_greater → ⊥
  pub runtime : PicksAreSound bad.picked_at_another → ⊥
  pub old_runtime : PicksAreSound bad.old_runtime_kept → ⊥
  pub charges : PicksAreSound bad.floor_follows_charges → ⊥
  pub return_free : PicksAreSound bad.return_charged → ⊥
  pub shares : PicksAreSound bad.old_shares_charged → ⊥
  pub idle : PicksAreSound bad.idle_picked → ⊥
  pub busy : PicksAreSound bad.picked_while_out → ⊥
  pub at_the_end : PicksAreSound bad.pick_at_the_end → ⊥
  pub without_turn : PicksAreSound bad.pick_without_turn → ⊥
  pub another : PicksAreSound bad.turn_of_another → ⊥
  pub returned : PicksAreSound bad.returned_without_pick → ⊥
  pub started : PicksAreSound bad.started_without_pick → ⊥
  pub yield_of_another : PicksAreSound bad.yield_of_another → ⊥
