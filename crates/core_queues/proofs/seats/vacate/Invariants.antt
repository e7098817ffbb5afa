-- The key is that of the place, and the keys before it have no seat any more.
use Rattle.core_queues.proofs.Words.{get, key_at, Vacates, ◌≡◌}
use Rattle.core_queues.proofs.seats.vacate.Given as goal

abbrev pub invariant-loop-index : goal.invariant-loop-index
invariant-loop-index g l = record {
  at : l.key ≡ key_at (get l.jobs) l.fn.line.head l.index;
  left : Vacates (key_at (get l.jobs) l.fn.line.head) l.index l.fn.seats.items l.seats.items;
}
