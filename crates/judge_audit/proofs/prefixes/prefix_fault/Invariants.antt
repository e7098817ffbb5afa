use Rattle.judge_audit.proofs.Names.{AreEven}
use Rattle.judge_audit.proofs.prefixes.prefix_fault.Given as goal

abbrev pub invariant-loop-place : goal.invariant-loop-place
invariant-loop-place l = AreEven l.front l.journal.notes l.place l.whole l.other.notes l.behind
