-- Small cases of sources that tell no sound journals.
use Rattle.std.specs.Prelude.{[], ◌∷◌, Some}
use Rattle.judge_parts.specs.Houses.{TellSound}
use Rattle.text_parts.specs.declared.parts.HouseNumbers.{HouseNumbers}

-- a house of one core
abbrev pub one_core : HouseNumbers
one_core = record { cores = 1; cap = 1; burst = 1 }

-- each of these is refused
pub record HousesAreRefused : Type 0 where
  -- the source of the core, or of the outside actor, has a byte that is no part
  pub no_part : TellSound one_core (Some (0 ∷ []) ∷ Some [] ∷ []) → ⊥
  pub no_part_outside : TellSound one_core (Some [] ∷ Some (0 ∷ []) ∷ []) → ⊥
