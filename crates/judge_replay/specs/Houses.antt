-- A house that writes anew what was read of all its actors.
use Rattle.std.specs.Prelude.{◌≡◌, ℕ, ◌+◌, ◌<◌, ◌≤◌, Bool, true, List, [], ◌∷◌, ◌++◌, Result, Ok, Err, length, map, slice_index_or}
use Rattle.base_words.specs.Assembly.{Assembly, journal_of}
use Rattle.base_words.specs.Journal.{Journal}
use Rattle.base_words.specs.Sound.{IsSound}
use Rattle.base_words.specs.Spelled.{IsWithinLimits}
use Rattle.actor_desk.specs.Submissions.{terms_of_desk}
use Rattle.actor_core.specs.Recorded.{terms_at}
use Rattle.actor_core.specs.Steps.{opened_beside}
use Rattle.link_ring.specs.Ends.{EndsView}
use Rattle.link_ends.specs.Fits.{Fits}
use Rattle.link_ring.specs.Grid.{AreReunited, IsGrid, no_ends}
use Rattle.host_core.specs.Hosted.{HostedView, IsAtRest, IsHosted}
use Rattle.host_core.specs.Jobs.{host_meaning}
use Rattle.host_core.specs.declared.job.HostJob.{HostJob}
use Rattle.host_house.specs.declared.house.OpenError.{OpenError}
use Rattle.host_house.specs.declared.house.OpenError.TheVariants.{BadConfig, Memory}
use Rattle.judge_replay.specs.Reads.{CoreRead, IsSeen, OutsideRead, core_read, outside_read}

-- the numbers of the house, its cores and the outside actor
pub record HouseRead : Type 0 where
  pub count : ℕ
  pub cap : ℕ
  pub burst : ℕ
  pub cores : List CoreRead
  pub outside : OutsideRead

abbrev pub no_core : CoreRead
no_core = record { linked = record { recorded = opened_beside 0 0 0 0 1; ends = no_ends }; told = 0 }

abbrev pub core_at : ℕ → HouseRead → CoreRead
core_at core house = slice_index_or house.cores core no_core

-- what was read of each actor, of which the outside actor is the last
abbrev pub read_at : ℕ → HouseRead → Journal ℕ
read_at actor house = slice_index_or (map core_read house.cores ++ outside_read house.outside ∷ []) actor []

abbrev pub all_ends : HouseRead → List (EndsView HostJob ℕ)
all_ends house = map (λ core. core.linked.ends) house.cores ++ house.outside.caller.ends ∷ []

-- each core has its number, and so has the outside actor; the ends are those of one house
pub record IsHouse (house : HouseRead) : Type 0 where
  pub many : length house.cores ≡ house.count
  pub each : (core : ℕ) → core < house.count → terms_at (core_at core house).linked.recorded ≡ record { actor = core; cores = house.count; cap = house.cap; burst = house.burst }
  pub outside_is : terms_of_desk house.outside.caller.desk ≡ record { actor = house.count; cores = house.count; cap = house.cap; burst = house.burst }
  pub grid : IsGrid house.count (all_ends house)

-- the assembly has what was read of each actor, however much its links may hold
pub record HasRead (house : HouseRead) (assembly : Assembly ℕ) : Type 0 where
  pub cores_are : assembly.cores ≡ house.count
  pub burst_is : assembly.burst ≡ house.burst
  pub many : length assembly.journals ≡ house.count + 1
  pub each : (actor : ℕ) → actor ≤ house.count → journal_of actor assembly ≡ read_at actor house

-- nothing was read of a core that was just opened
pub record IsFresh (hosted : HostedView) (core : CoreRead) : Type 0 where
  pub linked : core.linked ≡ hosted
  pub none : core_read core ≡ []

-- the ends of a core, of which all was read, and which is at rest, where that is told
pub record IsEndOf (whole : Bool) (core : CoreRead) (ends : EndsView HostJob ℕ) : Type 0 where
  pub read : whole ≡ true → core_read core ≡ core.linked.recorded.journal.notes
  pub rest : whole ≡ true → IsAtRest core.linked.recorded
  pub ends_are : ends ≡ core.linked.ends
  pub hosted : IsHosted core.linked

-- a house is opened, of which nothing was read, or the numbers aren't good, or there is no memory
pub record IsUnread (cores cap burst : ℕ) (house : HouseRead) : Type 0 where
  pub count_is : house.count ≡ cores
  pub cap_is : house.cap ≡ cap
  pub burst_is : house.burst ≡ burst
  pub none : (actor : ℕ) → read_at actor house ≡ []

abbrev pub OpensReplay : ℕ → ℕ → ℕ → Result HouseRead OpenError → Type 0
OpensReplay cores cap burst (Ok house) = IsUnread cores cap burst house
OpensReplay cores cap burst (Err BadConfig) = IsWithinLimits cores cap burst → ⊥
OpensReplay cores cap burst (Err Memory) = IsWithinLimits cores cap burst

-- all was read of each actor, each is at rest, and their ends are one house's again
pub record IsWhole (house : HouseRead) : Type 0 where
  pub house_is : IsHouse house
  pub cores_are : (core : ℕ) → core < house.count → IsEndOf true (core_at core house) (core_at core house).linked.ends
  pub outside_read_is : outside_read house.outside ≡ house.outside.caller.desk.journal.notes
  pub seen : IsSeen house.outside.caller
  pub reunited : AreReunited (Fits host_meaning) house.count (all_ends house)

abbrev pub ReadIsSound : Type 0
ReadIsSound = (house : HouseRead) → IsWhole house → (assembly : Assembly ℕ) → HasRead house assembly → IsSound assembly
