-- A house as the host keeps it.
use Rattle.std.specs.Prelude.{◌≡◌, ◌≢◌, ℕ, ◌<◌, ◌≤◌, false, Option, Some, None, Result, Ok, Err, List, [], ◌∷◌, ◌++◌, length}
use Rattle.host_core.specs.Hosted.{HostedView}
use Rattle.host_house.specs.Houses.{AreGood, HouseView, IsOpened}
use Rattle.host_house.specs.Outside.{CallerView}
use Rattle.host_calls.specs.declared.code.Code.{Code}
use Rattle.host_calls.specs.declared.code.Code.TheVariants as code
use Rattle.host_calls.specs.declared.house.Config.{Config}
use Rattle.host_calls.specs.declared.member.Member.{Member}
use Rattle.host_calls.specs.declared.member.Member.TheVariants as member
use Rattle.host_calls.specs.Kept.{KeptView}

-- a house that was just opened, as it is kept
abbrev pub kept_of : ℕ → ℕ → ℕ → HouseView → KeptView
kept_of cores cap burst house = record { cores = cores; cap = cap; burst = burst; left = house.cores; outside = Some house.outside; journals = []; parted = false }

-- it is kept so, or there is no memory
abbrev pub IsKeptOf : ℕ → ℕ → ℕ → HouseView → Result KeptView Code → Type 0
IsKeptOf cores cap burst house (Ok kept) = kept ≡ kept_of cores cap burst house
IsKeptOf cores cap burst house (Err told) = told ≡ code.NoMemory

-- the numbers of a config are within the limits
abbrev pub IsFit : Config → Type 0
IsFit config = (config.size ≡ 20) × AreGood config.cores config.places config.burst config.notes

-- a house is opened, or the config isn't fit, or there is no memory
abbrev pub OpensKept : Config → Result KeptView Code → Type 0
OpensKept config (Ok kept) =
    IsFit config
    × ((house : HouseView) × IsOpened config.cores config.places config.burst config.notes house × (kept ≡ kept_of config.cores config.places config.burst house))
OpensKept config (Err code.BadNumber) = IsFit config → ⊥
OpensKept config (Err code.NoMemory) = IsFit config
OpensKept config (Err other) = ⊥

-- the core that it is, if it is one
abbrev pub core_in : Member → Option HostedView
core_in (member.House view) = None
core_in (member.Core view) = Some view
core_in (member.Outside view) = None
core_in (member.Ended view) = None
core_in (member.Sleepers timers) = None

-- the outside actor that it is, if it is one
abbrev pub outside_in : Member → Option CallerView
outside_in (member.House view) = None
outside_in (member.Core view) = None
outside_in (member.Outside view) = Some view
outside_in (member.Ended view) = None
outside_in (member.Sleepers timers) = None

-- the last core goes out, with its number
abbrev pub TakesCore : KeptView → Member → ℕ → KeptView → Type 0
TakesCore old (member.Core view) number new = (old.left ≡ new.left ++ view ∷ []) × (number ≡ length new.left) × (new ≡ record old { left = new.left })
TakesCore old (member.House view) number new = ⊥
TakesCore old (member.Outside view) number new = ⊥
TakesCore old (member.Ended view) number new = ⊥
TakesCore old (member.Sleepers timers) number new = ⊥

-- none goes out: none is left, or there is no memory for one that is
abbrev pub TakesNoCore : KeptView → Code → KeptView → Type 0
TakesNoCore old code.Absent new = (old.left ≡ []) × (new ≡ old)
TakesNoCore old code.NoMemory new = (old.left ≢ []) × (new ≡ old)
TakesNoCore old other new = ⊥

-- the next seat goes out, with its number: that of the outside actor, then the last core
abbrev pub TakesOut : KeptView → Member → ℕ → KeptView → Type 0
TakesOut old (member.Outside view) number new = (old.outside ≡ Some view) × (number ≡ old.cores) × (new ≡ record old { outside = None })
TakesOut old (member.Core view) number new = (old.outside ≡ None) × TakesCore old (member.Core view) number new
TakesOut old (member.House view) number new = ⊥
TakesOut old (member.Ended view) number new = ⊥
TakesOut old (member.Sleepers timers) number new = ⊥

-- none goes out: all are taken, or there is no memory for one that is left
abbrev pub TakesNone : KeptView → Code → KeptView → Type 0
TakesNone old code.Absent new = (old.outside ≡ None) × (old.left ≡ []) × (new ≡ old)
TakesNone old code.NoMemory new = ((old.outside ≡ None) × (old.left ≡ []) → ⊥) × (new ≡ old)
TakesNone old other new = ⊥

-- the next seat goes out of a house
abbrev pub TakesSeat : Member → Member → ℕ → Member → Type 0
TakesSeat (member.House old) seat number (member.House new) = TakesOut old seat number new
TakesSeat old seat number new = ⊥

-- none goes out of it, or it is no house
abbrev pub TakesNoSeat : Member → Code → Member → Type 0
TakesNoSeat (member.House old) told (member.House new) = TakesNone old told new
TakesNoSeat old told new = (told ≡ code.Empty) × (new ≡ old)
