use Rattle.model_world.proofs.Words.{subst, HasAllLists}
use Rattle.model_world.proofs.Desks.{world_lists}
use Rattle.model_world.proofs.model.World.complete.Goals as goal

pub returns : goal.returns
returns g c = subst (λ world. HasAllLists world) c.self.view_is (world_lists _ c.self.invariant.1)
