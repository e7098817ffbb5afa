-- The orders of one link under their names.
use Rattle.std.specs.Prelude.{ℕ, ◌+◌, List, [], ◌∷◌}
use Rattle.base_words.specs.declared.names.JobId.{JobId}
use Rattle.base_words.specs.declared.order.Order.{Order}
use Rattle.base_words.specs.Orders.{without_job}

module _ {J : Type 0} where
  -- the names of the orders of one link, which count from 1
  abbrev pub numbered_orders : ℕ → ℕ → ℕ → List (Order J) → List (JobId × Order (Unit {0}))
  numbered_orders sender core before [] = []
  numbered_orders sender core before (order ∷ orders) =
      (record { from = sender; to = core; number = before + 1 }, without_job order) ∷ numbered_orders sender core (before + 1) orders
