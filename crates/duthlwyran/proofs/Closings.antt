-- One more core is closed; and no node finishes if its runtime doesn't.
use Rattle.std.proofs.Common.{◌≡◌, ℕ, ◌+◌, sym, subst, add-one}
use Rattle.base_words.specs.declared.order.Mode.{Mode}
use Rattle.run_runtime.specs.State.{RuntimeView}
use Rattle.duthlwyran.specs.Finishes.{ClosesAndFinishes, ClosesAt, ClosesBelow}

module _ {J T : Type 0} where
  pub closes_more : (mode : Mode) (core : ℕ) (old between new : RuntimeView J T) → ClosesBelow mode core old between → ClosesAt mode core between new → ClosesBelow mode (core + 1) old new
  closes_more mode core old between new before closes = subst (λ cores. ClosesBelow mode cores old new) (sym (add-one core)) (between, before, closes)

  -- all cores are closed, and the runtime below never finishes
  never_finished : (mode : Mode) (cores : ℕ) (old : RuntimeView J T) → ClosesAndFinishes (λ closed. ⊥) mode cores old → ⊥
  never_finished mode cores old does = does.does
