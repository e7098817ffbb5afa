use Rattle.judge_audit.proofs.Names.{AreTablesOf, order_in}
use Rattle.judge_audit.proofs.links.orders_sent.Given as goal

abbrev pub invariant-loop-actor : goal.invariant-loop-actor
invariant-loop-actor l = AreTablesOf order_in l.orders.items l.assembly l.actor
