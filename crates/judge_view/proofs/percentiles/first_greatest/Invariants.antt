-- Of the numbers so far the greatest stands there first.
use Rattle.std.proofs.Common.{ℕ, ◌<◌, ◌≤◌, length, get_or}
use Rattle.judge_view.proofs.percentiles.first_greatest.Given as goal

abbrev pub invariant-loop-other : goal.invariant-loop-other
invariant-loop-other l = record {
  there : l.place < length l.numbers;
  below : l.place < l.other;
  greatest : (other : ℕ) → other < l.other → get_or l.numbers other 0 ≤ get_or l.numbers l.place 0;
  first : (other : ℕ) → other < l.place → get_or l.numbers other 0 < get_or l.numbers l.place 0;
}
