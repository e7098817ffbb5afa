use Rattle.core_core.proofs.Names.{array_vec_len, queue_count, queue_stats, slice_get, Some, ℕ, ◌<◌, ◌≡◌, ◌≤◌}
use Rattle.core_core.proofs.one_core.Core.all_queue_stats.Given as goal

abbrev pub invariant-loop-number : goal.invariant-loop-number
invariant-loop-number g l =
    (array_vec_len l.all ≡ l.number)
    × ((queue : ℕ) → queue < l.number → slice_get l.all.items queue ≡ Some (queue_stats queue l.self))
    × (queue_count l.self.queues ≡ l.number-end) × (l.number-end ≤ g.row.N)
