use Rattle.std.proofs.Common.{◌≡◌, ℕ, ◌+◌, ◌<◌, length, get_or}
use Rattle.run_watch.specs.Ends.{IsWriting}
use Rattle.run_watch.specs.Views.{with_row}
use Rattle.run_watch.proofs.writing.put_words.Given as goal

abbrev pub invariant-loop-index : goal.invariant-loop-index
invariant-loop-index l = record {
  writing : IsWriting l.seat.table_id l.board.shared.table_id l.seat.me l.row.items;
  table : l.seat.table_id ≡ l.fn.seat.table_id;
  view : l.seat.me.0 ≡ with_row l.fn.seat.me.0 l.row.items;
  wide : length l.row.items ≡ length l.fn.row.items;
  stands : (i : ℕ) → i < l.index → get_or l.row.items (l.place + i) 0 ≡ get_or l.words i 0;
  stay : (i : ℕ) → i < l.place → get_or l.row.items i 0 ≡ get_or l.fn.row.items i 0;
}
