-- The heap: where each key stands in it, and the order of the timers that are set.
use Rattle.std.specs.Prelude.{◌≡◌, ◌≢◌, ℕ, ◌-◌, ◌/◌, ◌<◌, ◌≤◌, ◌^◌, length, map, Option, Some, None}
use Rattle.base_words.specs.declared.names.JobId.{JobId}
use Rattle.core_index.specs.Buckets.{Names}
use Rattle.core_timers.specs.Timers.{Timer, HasOneEach}
use Rattle.core_timers.specs.Tables.{Table, key_at, time_at, place_of, timers_of}

-- each key stands at one place, and its row tells which
pub record IsPlaced (t : Table) : Type 0 where
  pub long : length t.rows ≡ length t.heap
  pub few : length t.heap < 2 ^ 31
  pub keys : (place : ℕ) → place < length t.heap → key_at t place < length t.heap
  pub told : (place : ℕ) → place < length t.heap → place_of t (key_at t place) ≡ place
  pub places : (key : ℕ) → key < length t.heap → place_of t key < length t.heap
  pub there : (key : ℕ) → key < length t.heap → key_at t (place_of t key) ≡ key

-- the place above another one
abbrev pub above : ℕ → ℕ
above place = (place - 1) / 2

-- of the timers at the first `count` places none is due before the one above it
pub record IsOrdered (count : ℕ) (t : Table) : Type 0 where
  pub rises : (place : ℕ) → 0 < place → place < count → time_at t (above place) ≤ time_at t place

-- this holds but at one place, and none right below that place is due before the one above it
pub record IsOrderedBut (count hole : ℕ) (t : Table) : Type 0 where
  pub rises : (place : ℕ) → 0 < place → place < count → place ≢ hole → above place ≢ hole → time_at t (above place) ≤ time_at t place
  pub over : (place : ℕ) → 0 < hole → place < count → above place ≡ hole → time_at t (above hole) ≤ time_at t place

-- the timer at a place isn't due after any right below it
abbrev pub IsEarly : ℕ → ℕ → Table → Type 0
IsEarly count hole t = (place : ℕ) → 0 < place → place < count → above place ≡ hole → time_at t hole ≤ time_at t place

-- the timer at a place isn't due before the one above it
abbrev pub IsLate : ℕ → Table → Type 0
IsLate hole t = 0 < hole → time_at t (above hole) ≤ time_at t hole

-- the new table has the same timers, in order
pub record Settles (count : ℕ) (old new : Table) : Type 0 where
  pub placed : IsPlaced new
  pub order : IsOrdered count new
  pub same : timers_of count new ≡ timers_of count old

-- the name of a timer, if there is one
abbrev pub called : Option Timer → Option JobId
called None = None
called (Some timer) = Some timer.name

-- what holds of a table, the names of its timers, and how many are set
pub record AreKept (t : Table) (names : Names) (count : ℕ) : Type 0 where
  pub placed : IsPlaced t
  pub order : IsOrdered count t
  pub within : count ≤ length t.heap
  pub known : names ≡ map called (timers_of count t)
  pub once : HasOneEach (timers_of count t)
