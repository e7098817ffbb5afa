-- The places of the heap, and a row for each key.
use Rattle.std.specs.Prelude.{ℕ, nat_lt, if◌then◌else◌, List, map, Option, Some, None, slice_index_or, slice_set}
use Rattle.base_words.specs.declared.names.JobId.{JobId}
use Rattle.core_timers.specs.declared.row.Row.{Row}
use Rattle.core_timers.specs.declared.row.Slot.{Slot}
use Rattle.core_timers.specs.Timers.{Timer, Timers}

-- what stands at each place, and what is known of each key
pub record Table : Type 0 where
  pub heap : List Slot
  pub rows : List Row

-- the table of a heap and rows
abbrev pub table : List Slot → List Row → Table
table heap rows = record { heap = heap; rows = rows }

-- what a place that isn't there is said to hold
abbrev pub no_slot : Slot
no_slot = record { time = 0; key = 0 }

-- what is said of a key that isn't there
abbrev pub no_row : Row
no_row = record { name = record { from = 0; to = 0; number = 0 }; at = 0 }

-- what stands at a place
abbrev pub slot_at : Table → ℕ → Slot
slot_at t place = slice_index_or t.heap place no_slot

-- the key at a place
abbrev pub key_at : Table → ℕ → ℕ
key_at t place = (slot_at t place).key

-- when the timer at a place of a heap is due
abbrev pub due_at : List Slot → ℕ → ℕ
due_at heap place = (slice_index_or heap place no_slot).time

-- when the timer at a place is due
abbrev pub time_at : Table → ℕ → ℕ
time_at t place = due_at t.heap place

-- what is known of a key
abbrev pub row_of : Table → ℕ → Row
row_of t key = slice_index_or t.rows key no_row

-- the place that a key's row tells
abbrev pub place_of : Table → ℕ → ℕ
place_of t key = (row_of t key).at

-- a slot comes to a place, and the row of its key tells that place
abbrev pub put : Table → ℕ → Slot → Table
put t place slot = record { heap = slice_set t.heap place slot; rows = slice_set t.rows slot.key (record (row_of t slot.key) { at = place }) }

-- a key gets a name
abbrev pub named : Table → ℕ → JobId → Table
named t key name = record t { rows = slice_set t.rows key (record (row_of t key) { name = name }) }

-- the timer of a key with this row: it has one if it stands at one of the first `count` places
abbrev pub shown : ℕ → List Slot → Row → Option Timer
shown count heap row = if nat_lt row.at count then Some (record { name = row.name; time = due_at heap row.at }) else None

-- the timers of all keys
abbrev pub timers_of : ℕ → Table → Timers
timers_of count t = map (shown count t.heap) t.rows
