-- Small cases of heaps that each definition refuses.
use Rattle.std.specs.Prelude.{ℕ, [], ◌∷◌}
use Rattle.core_timers.specs.declared.row.Row.{Row}
use Rattle.core_timers.specs.declared.row.Slot.{Slot}
use Rattle.core_timers.specs.Tables.{table}
use Rattle.core_timers.specs.Heap.{IsPlaced, IsOrdered, IsOrderedBut, IsEarly, IsLate}

-- a slot of a key, and a row that tells a place
abbrev pub slot : ℕ → ℕ → Slot
slot time key = record { time = time; key = key }

abbrev pub row : ℕ → Row
row at = record { name = record { from = 0; to = 0; number = 0 }; at = at }

pub record HeapsAreRefused : Type 0 where
  -- the rows tell the wrong places
  pub rows : IsPlaced (table (slot 3 0 ∷ slot 5 1 ∷ []) (row 1 ∷ row 0 ∷ [])) → ⊥
  -- a key stands twice
  pub twice : IsPlaced (table (slot 3 0 ∷ slot 5 0 ∷ []) (row 0 ∷ row 1 ∷ [])) → ⊥
  -- a key has no row
  pub no_row : IsPlaced (table (slot 3 0 ∷ []) []) → ⊥
  -- the one above is due later
  pub order : IsOrdered 2 (table (slot 5 0 ∷ slot 3 1 ∷ []) []) → ⊥
  -- the one above is due later, and the open place is another
  pub but : IsOrderedBut 3 1 (table (slot 5 0 ∷ slot 3 1 ∷ slot 3 2 ∷ []) []) → ⊥
  -- the one above the open place is due later than one below it
  pub over : IsOrderedBut 4 1 (table (slot 5 0 ∷ slot 6 1 ∷ slot 6 2 ∷ slot 4 3 ∷ []) []) → ⊥
  -- the open place is due after the one below it
  pub early : IsEarly 2 0 (table (slot 5 0 ∷ slot 3 1 ∷ []) []) → ⊥
  -- the open place is due before the one above it
  pub late : IsLate 1 (table (slot 5 0 ∷ slot 3 1 ∷ []) []) → ⊥
