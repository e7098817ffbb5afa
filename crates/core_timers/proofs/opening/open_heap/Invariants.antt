-- Each key so far is at the place of its number.
use Rattle.std.proofs.Common.{◌≡◌, ℕ, ◌<◌, length}
use Rattle.std.specs.Prelude.{slice_index_or}
use Rattle.core_timers.specs.Tables.{no_slot}
use Rattle.core_timers.proofs.opening.open_heap.Given as goal

abbrev pub invariant-loop-key : goal.invariant-loop-key
invariant-loop-key g l = record {
  long : length l.heap.items ≡ l.key;
  keys : (place : ℕ) → place < l.key → (slice_index_or l.heap.items place no_slot).key ≡ place;
}
