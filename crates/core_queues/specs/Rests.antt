-- What holds of parked jobs inside.
use Rattle.std.specs.Prelude.{◌≡◌, ℕ, List, map}
use Rattle.slab.specs.Slab.{Slab, get}
use Rattle.core_queues.specs.declared.waiting.Waiting.{Waiting}
use Rattle.core_queues.specs.declared.line.Queue.{Queue}
use Rattle.core_queues.specs.View.{Line, awake}
use Rattle.core_queues.specs.Linked.{queue_at, chain, shown_parked}

module _ {J : Type 0} where
  -- these jobs are marked as started, and no wake of them is kept: they show as what comes to a line again
  abbrev pub IsAtRest : Line J → Type 0
  IsAtRest says = map awake (map shown_parked says) ≡ says

  -- so are the parked jobs of each queue, which therefore come to its line as they are
  abbrev pub AreAtRest : Slab (Waiting J) → List Queue → Type 0
  AreAtRest jobs queues = (queue : ℕ) → IsAtRest (chain (get jobs) (queue_at queues queue).parked.head (queue_at queues queue).parked.count)
