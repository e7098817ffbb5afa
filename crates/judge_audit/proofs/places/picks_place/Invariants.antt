use Rattle.judge_audit.proofs.Names.{PicksOf, ℕ, ◌<◌}
use Rattle.judge_audit.proofs.places.picks_place.Given as goal

abbrev pub invariant-loop-core : goal.invariant-loop-core
invariant-loop-core l = (core : ℕ) → core < l.core → PicksOf l.assembly core
