use Rattle.judge_audit.proofs.Names.{StartsOf, ℕ, ◌<◌}
use Rattle.judge_audit.proofs.places.starts_place.Given as goal

abbrev pub invariant-loop-actor : goal.invariant-loop-actor
invariant-loop-actor l = (actor : ℕ) → actor < l.actor → StartsOf l.assembly actor
