use Rattle.judge_audit.proofs.Names.{at_place, list_told, name_told, ◌≡◌}
use Rattle.judge_audit.proofs.prefixes.next_told.Given as goal

abbrev pub invariant-loop-place : goal.invariant-loop-place
invariant-loop-place l = list_told (name_told l.side) (at_place l.place l.journal.notes) ≡ list_told (name_told l.side) (at_place l.from l.journal.notes)
