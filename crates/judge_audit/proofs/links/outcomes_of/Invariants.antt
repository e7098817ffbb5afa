use Rattle.judge_audit.proofs.Names.{at_place, KnowsOutcomesOf}
use Rattle.judge_audit.proofs.links.outcomes_of.Given as goal

abbrev pub invariant-loop-place : goal.invariant-loop-place
invariant-loop-place l = KnowsOutcomesOf l.outcomes (at_place l.place l.journal.notes)
