use Rattle.actor_core.proofs.Names.{◌∙◌, ap}
use Rattle.actor_core.proofs.recorded.Recorded.burst.Goals as goal

pub returns : goal.returns
returns g c = c.burst.ensures ∙ (ap (λ desk. desk.burst) c.self.invariant.1 ∙ ap (λ view. view.core.bursts.burst) c.self.view_is)
