use Rattle.std.proofs.Common.{◌≡◌, ◌<◌, ℕ}
use Rattle.std.specs.Prelude.{slice_index_or, true, false}
use Rattle.actor_caller.proofs.caller.first_open.Given as goal

abbrev pub invariant-loop-core : goal.invariant-loop-core
invariant-loop-core l = (other : ℕ) → other < l.core → slice_index_or l.closing other false ≡ true
