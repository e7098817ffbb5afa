-- As many writes as were made were interrupted. They wrote nothing.
use Rattle.std.specs.Io.KnownBytes.{Keeps}
use Rattle.text_bytes.specs.Tries.{AreInterrupted, IsNoFewer}
use Rattle.note_sinks.proofs.writes.write_some.Given as goal

abbrev pub invariant-loop-i : goal.invariant-loop-i
invariant-loop-i g l = record {
  kept : Keeps (g.W.ByteSink.contents l.initial.writer) (g.W.ByteSink.contents l.writer);
  interrupted : AreInterrupted g.W.ByteSink.tries g.W.ByteSink.interrupts l._i l.initial.writer l.writer;
  tried : IsNoFewer (g.W.ByteSink.tries l.initial.writer) (g.W.ByteSink.tries l.writer);
}
