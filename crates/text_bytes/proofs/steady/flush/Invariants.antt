-- As many flushes as were made were interrupted. They changed nothing of what is written.
use Rattle.std.specs.Io.KnownBytes.{Keeps}
use Rattle.text_bytes.specs.Tries.{AreInterrupted, IsNoFewer}
use Rattle.text_bytes.proofs.steady.flush.Given as goal

abbrev pub invariant-loop-i : goal.invariant-loop-i
invariant-loop-i g l = record {
  kept : Keeps (g.S.ByteSink.contents l.initial.sink) (g.S.ByteSink.contents l.sink);
  interrupted : AreInterrupted g.S.ByteSink.tries g.S.ByteSink.interrupts l._i l.initial.sink l.sink;
  tried : IsNoFewer (g.S.ByteSink.tries l.initial.sink) (g.S.ByteSink.tries l.sink);
}
