use Rattle.judge_fronts.proofs.Names.{at_place, length_of, ◌≡◌, ◌≤◌}
use Rattle.judge_fronts.proofs.counts.count_told.Given as goal

abbrev pub invariant-loop-place : goal.invariant-loop-place
invariant-loop-place l = (l.count ≡ length_of l.side (at_place l.place l.journal.notes)) × (l.count ≤ l.place)
