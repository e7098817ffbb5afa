-- What is lent to a turn ends as, where the ends on which the core sends were lent on, or the end of one sender.
use Rattle.std.specs.Prelude.{ℕ}
use Rattle.std.specs.Borrow.{Lends, MutBor, Fml}
use denote.RattleType.{RattleType}
use Rattle.std.specs.contracts.alloc.Global as global
use Rattle.std.specs.contracts.impls.GlobalAllocator.TheImpl.{ghosts}
use Rattle.base_sealed.specs.Views.{SealedView}
use Rattle.base_sealed.specs.contracts.sealed_vec.SealedVec as sealed
use Rattle.link_ends.specs.Around.{Reach}

module _ {J T : Type 0} (A O I : RattleType) (reach : Reach J T A.Denot O.Denot I.Denot) where
  -- all is as it was, except the ends on which the core sends: what was left of them stands in their place
  abbrev pub LendsOuts : MutBor A.Denot → ℕ → MutBor (SealedView O.Denot) → Fml
  LendsOuts around own lent = Lends A (sealed.the_row O global.the_row ghosts) around lent (λ row. reach.with_outs own row.items around.now)

  -- all is as it was, except the end of this sender
  abbrev pub LendsIn : MutBor A.Denot → ℕ → ℕ → MutBor I.Denot → Fml
  LendsIn around own sender lent = Lends A I around lent (λ end. reach.with_in own sender end around.now)
