-- Small cases of bytes that are no journals of a house.
use Rattle.std.specs.Prelude.{ℕ, List, [], ◌∷◌, ◌++◌, codes, take, drop}
use Rattle.text_parts.specs.declared.part.PartCause.TheVariants as why
use Rattle.text_parts.specs.declared.parts.HouseNumbers.{HouseNumbers}
use Rattle.text_parts.specs.declared.parts.PartsCause.TheVariants as cause
use Rattle.text_parts.specs.BadParts.{closing, two_closes}
use Rattle.text_parts.specs.HouseLaws.{parts_bytes}
use Rattle.text_parts.specs.Houses.{IsFault, house_bytes}
use Rattle.text_parts.specs.Parts.{PartView}

abbrev pub one_core : HouseNumbers
one_core = record { cores = 1; cap = 4; burst = 1 }

-- these parts behind the numbers of a house of one core
abbrev pub house_parts : List PartView → List ℕ
house_parts parts = house_bytes one_core ++ parts_bytes parts

-- core 0 closes twice more
abbrev pub later : PartView
later = record { actor = 0; before = 2; notes = two_closes }

-- actor 1 is the outside actor
abbrev pub outside : PartView
outside = record { actor = 1; before = 0; notes = [] }

-- each of these is refused at the byte and for the cause beside it
pub record BadHousesAreRefused : Type 0 where
  pub no_core : IsFault (house_bytes (record { cores = 0; cap = 4; burst = 1 })) 0 cause.House
  pub other_version : IsFault (codes "fxh2" ++ drop 4 (house_parts [])) 0 cause.House
  pub part_twice : IsFault (house_parts (closing ∷ closing ∷ [])) 57 cause.Before
  pub part_missing : IsFault (house_parts (later ∷ [])) 8 cause.Before
  pub actor_goes_back : IsFault (house_parts (outside ∷ closing ∷ [])) 53 cause.Actor
  pub no_actor : IsFault (house_parts (record { actor = 2; before = 0; notes = [] } ∷ [])) 8 cause.Actor
  pub foreign_note : IsFault (house_parts (record { actor = 1; before = 0; notes = two_closes } ∷ [])) 8 cause.Note
  pub last_part_cut : IsFault (take 100 (house_parts (closing ∷ later ∷ []))) 57 (cause.Part why.Cut)
