use Rattle.judge_audit.proofs.Names.{at_place, ClosesSoFar}
use Rattle.judge_audit.proofs.closes.closes_fault.Given as goal

abbrev pub invariant-loop-place : goal.invariant-loop-place
invariant-loop-place l = ClosesSoFar l.assembly l.core l.closes (at_place l.place l.journal.notes)
