use Rattle.actor_core.proofs.Names.{◌∙◌, ap, is_some}
use Rattle.actor_core.proofs.recorded.Recorded.is_closed.Goals as goal

pub returns : goal.returns
returns g c = rw (← c.self.view_is) (c.is_closed.ensures ∙ ap is_some c.self.invariant.0.kept.agrees.closing.mode)
