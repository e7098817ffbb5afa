use Rattle.std.proofs.Common.{sym, ◌∙◌}
use Rattle.actor_core.proofs.Followed.{nothing_told}
use Rattle.actor_core.proofs.QuietSteps.{view_of}
use Rattle.actor_core.proofs.recorded.Recorded.ahead_in_turn.Goals as goal

pub returns-clause-nothing : goal.returns-clause-nothing
returns-clause-nothing g c = rw (← c.self.view_is) (λ none. nothing_told (view_of c.self.inside.core c.self.inside.took.items c.self.inside.said) c.self.invariant.0 (c.ahead_in_turn.ensures.over (sym c.apart.ensures ∙ none)))
