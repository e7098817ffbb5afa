-- The lanes of the cores so far stand behind what the page had.
use Rattle.std.proofs.Common.{◌≡◌, ◌++◌, string_bytes}
use Rattle.fairview_pictures.specs.Gantts.{lanes_below}
use Rattle.fairview_pictures.proofs.gantt.put_lanes.Given as goal

abbrev pub invariant-loop-core : goal.invariant-loop-core
invariant-loop-core l = string_bytes l.page ≡ string_bytes l.initial.page ++ lanes_below l.core l.cut l.span l.assembly
