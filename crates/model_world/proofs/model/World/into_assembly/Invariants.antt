use Rattle.model_world.proofs.Words.{◌≡◌, ◌+◌, ◌≤◌, vec_capacity}
use Rattle.model_world.proofs.Gathered.{journals_of}
use Rattle.model_world.proofs.model.World.into_assembly.Given as goal

-- the journals of the cores so far are gathered
abbrev pub invariant-loop-core : goal.invariant-loop-core
invariant-loop-core g l = (l.gathered.items ≡ journals_of l.yielded) × (l.fn.self.cores + 1 ≤ vec_capacity l.gathered)
