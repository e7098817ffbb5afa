use Rattle.actor_core.proofs.Drained.{drained_told, drained_here}
use Rattle.actor_core.proofs.QuietSteps.{view_of}
use Rattle.actor_core.proofs.recorded.Recorded.is_drained.Goals as goal

pub returns : goal.returns
returns g c =
    let view = view_of c.self.inside.core c.self.inside.took.items c.self.inside.said in
    rw (← c.self.view_is) (λ yes. drained_told view c.self.invariant.0 (c.is_drained.ensures.0 yes), λ drained. c.is_drained.ensures.1 (drained_here view c.self.invariant.0 drained))
