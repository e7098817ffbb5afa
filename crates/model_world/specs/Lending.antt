-- What a closed list ends as, when a `&mut` to one of its values was given out.
use Rattle.std.specs.Prelude.{ℕ, slice_set}
use Rattle.std.specs.Borrow.{Lends, Fml, RattleType, MutBor}
use Rattle.base_sealed.specs.Views.{SealedView}
use Rattle.model_world.specs.contracts.closed.Closed.{the_row}

-- the list with another value at a place
abbrev pub with_item : {T : Type 0} → SealedView T → ℕ → T → SealedView T
with_item v index value = record v { items = slice_set v.items index value }

module _ (T : RattleType) where
  -- the place has the last value that was written
  abbrev pub lends_item : MutBor (SealedView T.Denot) → ℕ → MutBor T.Denot → Fml
  lends_item v index r = Lends (the_row T) T v r (with_item v.now index)
