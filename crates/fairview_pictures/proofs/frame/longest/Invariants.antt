-- The longest of the cores so far.
use Rattle.std.proofs.Common.{◌≡◌}
use Rattle.fairview_pictures.specs.Frames.{longest_below}
use Rattle.fairview_pictures.proofs.frame.longest.Given as goal

abbrev pub invariant-loop-core : goal.invariant-loop-core
invariant-loop-core l = l.most ≡ longest_below l.core l.cut l.assembly
