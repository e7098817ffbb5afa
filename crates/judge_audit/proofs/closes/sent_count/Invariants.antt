use Rattle.judge_audit.proofs.Names.{accepted_orders, at_place, length, ◌≡◌, ◌≤◌}
use Rattle.judge_audit.proofs.closes.sent_count.Given as goal

abbrev pub invariant-loop-place : goal.invariant-loop-place
invariant-loop-place l = (l.count ≡ length (accepted_orders l.core (at_place l.place l.journal.notes))) × (l.count ≤ l.place)
