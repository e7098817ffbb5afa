use Rattle.model_world.proofs.Words.{subst, IsSound, assembly_of}
use Rattle.model_world.proofs.WorldSound.{world_sound}
use Rattle.model_world.proofs.model.World.sound.Goals as goal

pub returns : goal.returns
returns g c = subst (λ world. IsSound (assembly_of world)) c.self.view_is (world_sound _ c.self.invariant.1 c.self.invariant.3)
