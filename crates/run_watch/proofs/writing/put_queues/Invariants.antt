use Rattle.std.proofs.Common.{◌≡◌, ℕ, ◌<◌, []}
use Rattle.std.specs.Prelude.{Some, slice_get}
use Rattle.base_words.specs.Charge.{InRange}
use Rattle.base_words.specs.declared.stats.QueueStats.{QueueStats}
use Rattle.run_watch.specs.Ends.{IsWriting}
use Rattle.run_watch.specs.Views.{with_row}
use Rattle.run_watch.specs.Words.{HasAt, Writes, place_of, queue_words}
use Rattle.run_watch.proofs.writing.put_queues.Given as goal

abbrev pub invariant-loop-number : goal.invariant-loop-number
invariant-loop-number l = record {
  writing : IsWriting l.seat.table_id l.board.shared.table_id l.seat.me l.row.items;
  table : l.seat.table_id ≡ l.fn.seat.table_id;
  view : l.seat.me.0 ≡ with_row l.fn.seat.me.0 l.row.items;
  writes : Writes 7 [] l.fn.row.items l.row.items;
  each : (queue : ℕ) (stats : QueueStats) → queue < l.number → slice_get l.queues queue ≡ Some stats → HasAt l.row.items (place_of queue) (queue_words stats) × InRange stats.shares;
}
