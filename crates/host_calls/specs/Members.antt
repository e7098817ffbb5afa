-- What stands behind a handle of a house or of timers, and which calls it takes.
use Rattle.std.specs.Prelude.{◌≡◌}
use Rattle.core_timers.specs.Timers.{Timers}
use Rattle.host_core.specs.Hosted.{HostedView}
use Rattle.host_calls.specs.declared.code.Code.{Code}
use Rattle.host_calls.specs.declared.code.Code.TheVariants as code
use Rattle.host_calls.specs.declared.member.Member.{Member}
use Rattle.host_calls.specs.declared.member.Member.TheVariants as member

-- it is an actor
abbrev pub IsActor : Member → Type 0
IsActor (member.House view) = ⊥
IsActor (member.Core view) = Unit {0}
IsActor (member.Outside view) = Unit {0}
IsActor (member.Ended view) = ⊥
IsActor (member.Sleepers timers) = ⊥

-- it is a house that waits for journals
abbrev pub IsHouse : Member → Type 0
IsHouse (member.House view) = Unit {0}
IsHouse (member.Core view) = ⊥
IsHouse (member.Outside view) = ⊥
IsHouse (member.Ended view) = ⊥
IsHouse (member.Sleepers timers) = ⊥

-- a call for a core alone; any other member is told that it has none, and stays, and so does what the call writes to
abbrev pub OnCore : Member → Type 0 → Code → Member → (HostedView → Code → HostedView → Type 0) → Type 0
OnCore (member.Core old) same told (member.Core new) does = does old told new
OnCore (member.Core old) same told (member.House new) does = ⊥
OnCore (member.Core old) same told (member.Outside new) does = ⊥
OnCore (member.Core old) same told (member.Ended new) does = ⊥
OnCore (member.Core old) same told (member.Sleepers new) does = ⊥
OnCore (member.House old) same told new does = (told ≡ code.Empty) × same × (new ≡ member.House old)
OnCore (member.Outside old) same told new does = (told ≡ code.Empty) × same × (new ≡ member.Outside old)
OnCore (member.Ended old) same told new does = (told ≡ code.Empty) × same × (new ≡ member.Ended old)
OnCore (member.Sleepers old) same told new does = (told ≡ code.Empty) × same × (new ≡ member.Sleepers old)

-- a call for the timers of a core alone; any other member is told that it has none, and stays, and so does all else
abbrev pub OnSleepers : Member → Type 0 → Code → Member → (Timers → Code → Timers → Type 0) → Type 0
OnSleepers (member.Sleepers old) same told (member.Sleepers new) does = does old told new
OnSleepers (member.Sleepers old) same told other does = ⊥
OnSleepers old same told new does = (told ≡ code.Empty) × same × (new ≡ old)
