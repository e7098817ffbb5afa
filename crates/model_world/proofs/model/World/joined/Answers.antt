use Rattle.model_world.proofs.Words.{subst, AreJoined, assembly_of}
use Rattle.model_world.proofs.WorldSound.{world_joined}
use Rattle.model_world.proofs.model.World.joined.Goals as goal

pub returns : goal.returns
returns g c = subst (λ world. AreJoined (assembly_of world)) c.self.view_is (world_joined _ c.self.invariant.1 c.self.invariant.3)
