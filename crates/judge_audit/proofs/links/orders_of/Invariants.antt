use Rattle.judge_audit.proofs.Names.{at_place, KnowsOrdersOf}
use Rattle.judge_audit.proofs.links.orders_of.Given as goal

abbrev pub invariant-loop-place : goal.invariant-loop-place
invariant-loop-place l = KnowsOrdersOf l.orders (at_place l.place l.journal.notes)
