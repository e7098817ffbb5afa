-- As many reads as were made were interrupted. They took nothing, and the room keeps its length.
use Rattle.std.proofs.Common.{◌≡◌, length}
use Rattle.std.specs.Io.KnownBytes.{Keeps}
use Rattle.text_bytes.specs.Tries.{AreInterrupted, IsNoFewer}
use Rattle.text_bytes.proofs.source.read_some.Given as goal

abbrev pub invariant-loop-i : goal.invariant-loop-i
invariant-loop-i g l = record {
  room : length l.room ≡ length l.initial.room;
  kept : Keeps (g.S.Source.remaining l.initial.source) (g.S.Source.remaining l.source);
  interrupted : AreInterrupted g.S.Source.tries g.S.Source.interrupts l._i l.initial.source l.source;
  tried : IsNoFewer (g.S.Source.tries l.initial.source) (g.S.Source.tries l.source);
}
