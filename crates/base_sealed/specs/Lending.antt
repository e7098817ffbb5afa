-- What a sealed vector or slab ends as, when a `&mut` to one of its values was given out.
use Rattle.std.specs.Prelude.{ℕ, slice_set}
use Rattle.std.specs.Borrow.{Lends, Fml, RattleType, MutBor}
use Rattle.std.specs.declared.alloc.Allocator.{Ghosts}
use Rattle.slab.specs.Slab.{Slab, with_value}
use Rattle.base_sealed.specs.Views.{SealedView}
use Rattle.base_sealed.specs.contracts.sealed_vec.SealedVec.{the_row as vec_row}
use Rattle.base_sealed.specs.contracts.sealed_slab.SealedSlab.{the_row as slab_row}

-- the vector with another value at a place
abbrev pub with_item : {T : Type 0} → SealedView T → ℕ → T → SealedView T
with_item v index value = record v { items = slice_set v.items index value }

module _ (T A : RattleType) (alloc : Ghosts A.Denot) where
  -- the place has the last value that was written
  abbrev pub lends_item : MutBor (SealedView T.Denot) → ℕ → MutBor T.Denot → Fml
  lends_item v index r = Lends (vec_row T A alloc) T v r (with_item v.now index)

  -- the key has the last value that was written
  abbrev pub lends_value : MutBor (Slab T.Denot) → ℕ → MutBor T.Denot → Fml
  lends_value s key r = Lends (slab_row T A alloc) T s r (with_value s.now key)
