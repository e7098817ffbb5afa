-- The cores of a house at their ends, one after another.
use Rattle.std.specs.Prelude.{ℕ, List, slice_index_or}
use Rattle.actor_core.specs.Steps.{opened_beside}
use Rattle.link_ring.specs.Grid.{no_ends}
use Rattle.actor_seat.specs.Linked.{LinkedView}

module _ {J T : Type 0} where
  abbrev pub no_linked : LinkedView J T
  no_linked = record { recorded = opened_beside 0 0 0 0 1; ends = no_ends }

  -- the core of a number
  abbrev pub worker_at : ℕ → List (LinkedView J T) → LinkedView J T
  worker_at core workers = slice_index_or workers core no_linked
