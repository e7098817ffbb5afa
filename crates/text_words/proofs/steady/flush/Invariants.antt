-- No flush changes what is written.
use Rattle.std.specs.Io.KnownBytes.{Keeps}
use Rattle.text_words.proofs.steady.flush.Given as goal

abbrev pub invariant-loop-i : goal.invariant-loop-i
invariant-loop-i g l = Keeps (g.W.Write.contents l.initial.sink) (g.W.Write.contents l.sink)
