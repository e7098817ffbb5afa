-- The rule of a lock with one word and one place.
use Rattle.std.specs.Prelude.{◌≡◌, ◌∷◌, [], Option, Some, None, slice_index, length}
use mathlib.Core.Option.{some}
use lib.ListN.{get_elem?}
use Rattle.atomic_table.specs.Table.{State, Me}

module _ {T V : Type 0} where
  -- if the word is 0, then the value is in its place, and fits; if it is 2, then no value was there yet
  abbrev pub Guarded : (T → Type 0) → State (Option T) V → Type 0
  Guarded fits state =
      (length state.words ≡ 1)
      × (slice_index state.words 0 ≡ 0 → (value : T) × (get_elem? state.homes 0 ≡ some (some (Some value))) × fits value)
      × (slice_index state.words 0 ≡ 2 → get_elem? state.homes 0 ≡ some (some None))

  -- the value is out with this seat, and fits
  abbrev pub Seized : (T → Type 0) → Me (Option T) V → Type 0
  Seized fits me = (value : T) × (me.1 ≡ (0, Some value) ∷ []) × fits value

  -- the place is out with this seat, and nothing else
  abbrev pub HasOnly : Me (Option T) V → Type 0
  HasOnly me = (held : Option T) × (me.1 ≡ (0, held) ∷ [])
