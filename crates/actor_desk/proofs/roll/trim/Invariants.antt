use Rattle.std.proofs.Common.{◌≡◌, length}
use Rattle.std.specs.Vec.{vec_capacity}
use Rattle.actor_desk.specs.Rolls.{held, IsRising}
use Rattle.actor_desk.proofs.roll.trim.Given as goal

-- The lines that are left rise, and hold what all held.
abbrev pub invariant-loop-lines : goal.invariant-loop-lines
invariant-loop-lines g l = record {
  rising : IsRising l.lines.items;
  held : held l.lines.items ≡ held l.initial.lines.items;
  capacity : vec_capacity l.lines ≡ vec_capacity l.initial.lines;
}

abbrev pub decreases-loop-lines : goal.decreases-loop-lines
decreases-loop-lines g l = length l.lines.items
