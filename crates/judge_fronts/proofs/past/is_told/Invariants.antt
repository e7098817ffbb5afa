use Rattle.judge_fronts.proofs.Names.{at_place, is_told, name_at, ◌≡◌}
use Rattle.judge_fronts.proofs.past.is_told.Given as goal

abbrev pub invariant-loop-place : goal.invariant-loop-place
invariant-loop-place l = l.told ≡ is_told (name_at l.step) l.name (at_place l.place l.journal.notes)
