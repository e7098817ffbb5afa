use Rattle.judge_fronts.proofs.Names.{at_place, None, order_in, ◌≡◌}
use Rattle.judge_fronts.proofs.told.has_sent.Given as goal

abbrev pub invariant-loop-place : goal.invariant-loop-place
invariant-loop-place l = order_in l.name (at_place l.place l.journal.notes) ≡ None
