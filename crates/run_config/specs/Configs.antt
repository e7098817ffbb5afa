-- When a configuration is within the limits.
use Rattle.std.specs.Prelude.{◌≡◌, ◌==◌, ℕ, ◌+◌, ◌-◌, ◌*◌, ◌<◌, ◌≤◌, if◌then◌else◌, nat_lt, List, [], ◌∷◌}
use Rattle.base_words.specs.Limits.{most_burst, most_cores, most_capacity, most_queues, most_notes}
use Rattle.base_words.specs.Work.{number_if}

-- a core, and the shares of one of its queues
abbrev pub Entry : Type 0
Entry = ℕ × ℕ

-- how many queues a core is to have beside queue 0
abbrev pub queues_of : ℕ → List Entry → ℕ
queues_of core [] = 0
queues_of core (entry ∷ entries) = number_if (entry.0 == core) + queues_of core entries

-- how many queues are of no core
abbrev pub strays : ℕ → List Entry → ℕ
strays cores [] = 0
strays cores (entry ∷ entries) = (if nat_lt entry.0 cores then 0 else 1) + strays cores entries

-- how many notes a journal of a worker has room for at least, where a turn may have this many polls
abbrev pub least_room : ℕ → ℕ → ℕ → ℕ
least_room cores cap burst = 16 * ((cores + 1) * (cap + 1)) + 4 * (burst - 1)

-- each number is within its limits
pub record AreNumbersGood (cores cap burst room : ℕ) : Type 0 where
  pub some_core : 0 < cores
  pub cores_most : cores ≤ most_cores
  pub some_place : 0 < cap
  pub places_most : cap ≤ most_capacity
  pub some_poll : 0 < burst
  pub polls_most : burst ≤ most_burst
  pub room_most : room ≤ most_notes

-- a core has at most as many queues as there may be, queue 0 among them, and its journal has room for their notes
pub record IsCoreGood (cores cap burst room core : ℕ) (queues : List Entry) : Type 0 where
  pub queues_most : queues_of core queues < most_queues
  pub room_least : least_room cores cap burst + queues_of core queues ≤ room

-- the numbers are within their limits, each queue is of a core that there is, each core is within its limits, and each has a clock and a gate
pub record IsGood (cores cap burst room : ℕ) (queues : List Entry) (clocks gates : ℕ) : Type 0 where
  pub numbers : AreNumbersGood cores cap burst room
  pub named : strays cores queues ≡ 0
  pub each : (core : ℕ) → core < cores → IsCoreGood cores cap burst room core queues
  pub clocks_are : clocks ≡ cores
  pub gates_are : gates ≡ cores
