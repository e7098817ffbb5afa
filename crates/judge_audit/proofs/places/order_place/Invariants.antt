use Rattle.judge_audit.proofs.Names.{IsInOrder, ℕ, ◌<◌}
use Rattle.judge_audit.proofs.places.order_place.Given as goal

abbrev pub invariant-loop-actor : goal.invariant-loop-actor
invariant-loop-actor l = (actor : ℕ) → actor < l.actor → IsInOrder l.assembly actor
