use Rattle.std.proofs.Common.{◌≡◌, length, take}
use Rattle.run_watch.specs.Views.{with_reads}
use Rattle.run_watch.proofs.reading.read_all.Given as goal

abbrev pub invariant-loop-index : goal.invariant-loop-index
invariant-loop-index l = record {
  table : l.seat.table_id ≡ l.fn.seat.table_id;
  view : l.seat.me.0 ≡ with_reads l.fn.seat.me.0 (take l.index l.row.items);
  wide : length l.row.items ≡ length l.fn.row.items;
}
