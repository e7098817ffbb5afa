-- Only the open place may be out of order, and what is above it isn't.
use Rattle.std.proofs.Common.{◌-◌}
use Rattle.core_timers.specs.Tables.{table, put}
use Rattle.core_timers.specs.Heap.{IsLate}
use Rattle.core_timers.proofs.Sifts.{Goes}
use Rattle.core_timers.proofs.heap.sink.Given as goal

abbrev pub invariant-loop-at : goal.invariant-loop-at
invariant-loop-at g l = record {
  goes : Goes l.count l.at (put (table l.fn.heap.items l.fn.rows.items) l.fn.hole l.slot) (put (table l.heap.items l.rows.items) l.at l.slot);
  late : IsLate l.at (put (table l.heap.items l.rows.items) l.at l.slot);
}

abbrev pub decreases-loop-at : goal.decreases-loop-at
decreases-loop-at g l = l.count - l.at
