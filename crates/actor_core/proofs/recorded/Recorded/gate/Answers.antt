use Rattle.actor_core.proofs.Names.{◌∙◌}
use Rattle.actor_core.proofs.recorded.Recorded.gate.Goals as goal

pub returns : goal.returns
returns g c = rw (← c.self.view_is) (c.gate.ensures ∙ c.self.invariant.0.kept.agrees.closing.gates c.args.from)
