use Rattle.actor_core.proofs.Names.{◌∙◌}
use Rattle.actor_core.proofs.Followed.{turn_told}
use Rattle.actor_core.proofs.QuietSteps.{view_of}
use Rattle.actor_core.proofs.recorded.Recorded.has_open_turn.Goals as goal

pub returns : goal.returns
returns g c = rw (← c.self.view_is) (c.has_open_turn.ensures ∙ turn_told (view_of c.self.inside.core c.self.inside.took.items c.self.inside.said) c.self.invariant.0)
