-- The bytes up to the count are written.
use Rattle.std.proofs.Common.{◌-◌, ◌≤◌, drop, length}
use Rattle.text_bytes.specs.Tries.{IsNoFewer}
use Rattle.note_sinks.specs.Outlets.{Writes}
use Rattle.note_sinks.proofs.writes.write_rest.Given as goal

abbrev pub invariant-loop-written : goal.invariant-loop-written
invariant-loop-written g l = record {
  within : l.written ≤ length l.bytes;
  writes : Writes (g.W.ByteSink.contents l.initial.writer) (g.W.ByteSink.contents l.writer) (drop l.initial.written l.bytes) (drop l.written l.bytes);
  tried : IsNoFewer (g.W.ByteSink.tries l.initial.writer) (g.W.ByteSink.tries l.writer);
}

abbrev pub decreases-loop-written : goal.decreases-loop-written
decreases-loop-written g l = length l.bytes - l.written
