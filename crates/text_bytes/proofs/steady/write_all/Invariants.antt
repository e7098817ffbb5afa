-- The first bytes are written, so many as were counted.
use Rattle.std.proofs.Common.{◌-◌, ◌≤◌, length, take}
use Rattle.std.specs.Io.KnownBytes.{Appends}
use Rattle.text_bytes.specs.Tries.{IsNoFewer}
use Rattle.text_bytes.proofs.steady.write_all.Given as goal

abbrev pub invariant-loop-written : goal.invariant-loop-written
invariant-loop-written g l = record {
  within : l.written ≤ length l.bytes;
  done : Appends (g.S.ByteSink.contents l.initial.sink) (g.S.ByteSink.contents l.sink) (take l.written l.bytes);
  tried : IsNoFewer (g.S.ByteSink.tries l.initial.sink) (g.S.ByteSink.tries l.sink);
}

abbrev pub decreases-loop-written : goal.decreases-loop-written
decreases-loop-written g l = length l.bytes - l.written
