use Rattle.judge_audit.proofs.Names.{AreHistories}
use Rattle.judge_audit.proofs.histories.histories_of.Given as goal

abbrev pub invariant-loop-actor : goal.invariant-loop-actor
invariant-loop-actor l = AreHistories l.histories.items l.assembly l.actor
