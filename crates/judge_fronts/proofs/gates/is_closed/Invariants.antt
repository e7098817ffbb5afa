use Rattle.judge_fronts.proofs.Names.{at_place, is_told_closed, ◌≡◌}
use Rattle.judge_fronts.proofs.gates.is_closed.Given as goal

abbrev pub invariant-loop-place : goal.invariant-loop-place
invariant-loop-place l = l.told ≡ is_told_closed l.close (at_place l.place l.journal.notes)
