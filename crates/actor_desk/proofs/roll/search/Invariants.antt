use Rattle.std.proofs.Common.{◌-◌, ◌≡◌, ◌≤◌, ℕ, Some, length}
use Rattle.std.specs.Prelude.{slice_get}
use Rattle.actor_desk.specs.Rolls.{IsBelow}
use Rattle.actor_desk.specs.declared.roll.Line.{Line}
use Rattle.actor_desk.proofs.roll.search.Given as goal

-- The lines before have lower numbers, and those behind don't.
abbrev pub invariant-loop-low : goal.invariant-loop-low
invariant-loop-low g l = record {
  within : l.high ≤ length l.lines;
  below : IsBelow l.lines l.number l.low;
  behind : (i : ℕ) (line : Line g.row.V.Denot) → l.high ≤ i → slice_get l.lines i ≡ Some line → l.number ≤ line.number;
}

abbrev pub decreases-loop-low : goal.decreases-loop-low
decreases-loop-low g l = l.high - l.low
