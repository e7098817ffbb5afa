-- The row of each key so far tells the place of its number.
use Rattle.std.proofs.Common.{◌≡◌, ℕ, ◌<◌, length}
use Rattle.std.specs.Prelude.{slice_index_or}
use Rattle.core_timers.specs.Tables.{no_row}
use Rattle.core_timers.proofs.opening.open_rows.Given as goal

abbrev pub invariant-loop-key : goal.invariant-loop-key
invariant-loop-key g l = record {
  long : length l.rows.items ≡ l.key;
  places : (key : ℕ) → key < l.key → (slice_index_or l.rows.items key no_row).at ≡ key;
}
