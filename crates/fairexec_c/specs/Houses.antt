-- What the calls on a house do.
use Rattle.std.specs.Prelude.{◌≡◌, ◌≢◌, ◌⊎◌, ℕ, Option, Some, None, Ok, Err}
use Rattle.host_calls.specs.declared.code.Code.{Code}
use Rattle.host_calls.specs.declared.code.Code.TheVariants as code
use Rattle.host_calls.specs.declared.house.Config.{Config}
use Rattle.host_calls.specs.declared.member.Member.{Member}
use Rattle.host_calls.specs.declared.member.Member.TheVariants as member
use Rattle.host_calls.specs.Ending.{EndsNoSeat, EndsSeat}
use Rattle.host_calls.specs.Houses.{IsFit, OpensKept, TakesNoSeat, TakesSeat}
use Rattle.host_calls.specs.Codes.{number_of}
use Rattle.host_calls.specs.Members.{IsHouse}
use Rattle.fairexec_c.specs.Handles.{Answers}

-- an empty handle gets a house, or stays empty
abbrev pub OpensOn : Config → Code → Option Member → Type 0
OpensOn config code.Ok (Some (member.House kept)) = OpensKept config (Ok kept)
OpensOn config code.BadNumber new = OpensKept config (Err code.BadNumber) × (new ≡ None)
OpensOn config code.NoMemory new = IsFit config × (new ≡ None)
OpensOn config other new = ⊥

-- one that isn't empty stays as it is
abbrev pub OpensHouse : Option Member → Config → ℕ → Option Member → Type 0
OpensHouse None config number new = Answers number (λ told. OpensOn config told new)
OpensHouse (Some old) config number new = (number ≡ number_of code.Occupied) × (new ≡ Some old)

-- the next seat of a house goes into an empty handle, or nothing changes
abbrev pub TakesInto : Member → Option Member → ℕ → Code → Member → Option Member → ℕ → Type 0
TakesInto old None before code.Ok new (Some seat) after = TakesSeat old seat after new
TakesInto old None before told new seat after = TakesNoSeat old told new × (told ≢ code.Ok) × (seat ≡ None) × (after ≡ before)
TakesInto old (Some other) before told new seat after = (told ≡ code.Occupied) × (new ≡ old) × (seat ≡ Some other) × (after ≡ before)

-- the same of a handle that may have no house
abbrev pub TakesFrom : Option Member → Option Member → ℕ → ℕ → Option Member → Option Member → ℕ → Type 0
TakesFrom None seat before number new seat_new after = (number ≡ number_of code.Empty) × (new ≡ None) × (seat_new ≡ seat) × (after ≡ before)
TakesFrom (Some old) seat before number None seat_new after = ⊥
TakesFrom (Some old) seat before number (Some new) seat_new after =
    Answers number (λ told. ((IsHouse old → ⊥) × (told ≡ code.Empty) × (new ≡ old) × (seat_new ≡ seat) × (after ≡ before))
    ⊎ (IsHouse old × TakesInto old seat before told new seat_new after))

-- the seat of a handle ends in a house, or nothing changes
abbrev pub EndsInto : Member → Option Member → Code → Member → Option Member → Type 0
EndsInto old None told new seat = (told ≡ code.Empty) × (new ≡ old) × (seat ≡ None)
EndsInto old (Some ends) code.Ok new None = EndsSeat old ends new
EndsInto old (Some ends) told new seat = EndsNoSeat old ends told × (new ≡ old) × (seat ≡ Some ends)

-- the same of a handle that may have no house
abbrev pub EndsIn : Option Member → Option Member → ℕ → Option Member → Option Member → Type 0
EndsIn None seat number new seat_new = (number ≡ number_of code.Empty) × (new ≡ None) × (seat_new ≡ seat)
EndsIn (Some old) seat number None seat_new = ⊥
EndsIn (Some old) seat number (Some new) seat_new = Answers number (λ told. EndsInto old seat told new seat_new)
