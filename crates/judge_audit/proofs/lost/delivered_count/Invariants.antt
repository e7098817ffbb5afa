use Rattle.judge_audit.proofs.Names.{at_place, delivered_names, length, ◌≡◌, ◌≤◌}
use Rattle.judge_audit.proofs.lost.delivered_count.Given as goal

abbrev pub invariant-loop-place : goal.invariant-loop-place
invariant-loop-place l = (l.count ≡ length (delivered_names l.sender (at_place l.place l.journal.notes))) × (l.count ≤ l.place)
