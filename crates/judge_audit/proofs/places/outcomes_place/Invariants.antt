use Rattle.judge_audit.proofs.Names.{OutcomesOf, ℕ, ◌<◌}
use Rattle.judge_audit.proofs.places.outcomes_place.Given as goal

abbrev pub invariant-loop-actor : goal.invariant-loop-actor
invariant-loop-actor l = (actor : ℕ) → actor < l.actor → OutcomesOf l.assembly actor
