use Rattle.judge_audit.proofs.Names.{at_place, final_count, ◌≡◌}
use Rattle.judge_audit.proofs.lost.final_count.Given as goal

abbrev pub invariant-loop-place : goal.invariant-loop-place
invariant-loop-place l = l.count ≡ final_count l.sender (at_place l.place l.journal.notes)
