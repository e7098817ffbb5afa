use Rattle.judge_audit.proofs.Names.{AreTablesOf, outcome_in}
use Rattle.judge_audit.proofs.links.outcomes_given.Given as goal

abbrev pub invariant-loop-actor : goal.invariant-loop-actor
invariant-loop-actor l = AreTablesOf outcome_in l.outcomes.items l.assembly l.actor
