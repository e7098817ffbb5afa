-- A read that is interrupted takes nothing, and the room keeps its length.
use Rattle.std.proofs.Common.{◌≡◌, length}
use Rattle.std.specs.Io.KnownBytes.{Keeps}
use Rattle.text_words.proofs.steady.read_some.Given as goal

abbrev pub invariant-loop-i : goal.invariant-loop-i
invariant-loop-i g l = record {
  room : length l.room ≡ length l.initial.room;
  kept : Keeps (g.R.Read.remaining l.initial.source) (g.R.Read.remaining l.source);
}
