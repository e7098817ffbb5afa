-- How a house is opened.
use Rattle.std.specs.Prelude.{◌≡◌, ℕ, ◌<◌, ◌≤◌, List, [], ◌∷◌, ◌++◌, length, map, Result, Ok, Err}
use Rattle.base_words.specs.Limits.{most_notes}
use Rattle.base_words.specs.Spelled.{IsWithinLimits}
use Rattle.actor_desk.specs.Submissions.{opened_desk}
use Rattle.link_ring.specs.Grid.{IsGrid}
use Rattle.actor_seat.specs.Opening.{IsWorkerOf}
use Rattle.actor_seat.specs.Together.{worker_at}
use Rattle.host_core.specs.Hosted.{HostedView}
use Rattle.host_house.specs.declared.house.OpenError.{OpenError}
use Rattle.host_house.specs.declared.house.OpenError.TheVariants.{BadConfig, Memory}
use Rattle.host_house.specs.Outside.{CallerView}

-- the cores by their numbers, and the outside actor
pub record HouseView : Type 0 where
  pub cores : List HostedView
  pub outside : CallerView

-- the numbers are within the limits of a house
pub record AreGood (cores cap burst room : ℕ) : Type 0 where
  pub limits : IsWithinLimits cores cap burst
  pub notes : room ≤ most_notes

-- Each core has its number and has noted nothing, and so has the outside actor, which comes last. The two ends for each sender and each core are of one link.
pub record IsOpened (cores cap burst room : ℕ) (house : HouseView) : Type 0 where
  pub count : length house.cores ≡ cores
  pub each : (core : ℕ) → core < cores → IsWorkerOf core cores cap burst room (worker_at core house.cores)
  pub outside_is : house.outside.desk ≡ opened_desk cores cores cap room burst
  pub grid : IsGrid cores (map (λ core. core.ends) house.cores ++ house.outside.ends ∷ [])

-- a house is opened, or the numbers aren't good, or there is no memory
abbrev pub OpensHouse : ℕ → ℕ → ℕ → ℕ → Result HouseView OpenError → Type 0
OpensHouse cores cap burst room (Ok house) = AreGood cores cap burst room × IsOpened cores cap burst room house
OpensHouse cores cap burst room (Err BadConfig) = AreGood cores cap burst room → ⊥
OpensHouse cores cap burst room (Err Memory) = AreGood cores cap burst room
