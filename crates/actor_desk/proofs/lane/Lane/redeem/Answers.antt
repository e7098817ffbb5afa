use Rattle.std.proofs.Common.{sym, ap, ◌∙◌}
use Rattle.actor_desk.specs.Held.{at}
use Rattle.actor_desk.proofs.Collections.{collected-got, collected-fits}
use Rattle.actor_desk.proofs.Collected.{IsLaneOf-gone}
use Rattle.actor_desk.proofs.lane.Lane.redeem.Goals as goal

pub returns-in-Collected-clause-lane : goal.returns-in-Collected-clause-lane
returns-in-Collected-clause-lane g c = IsLaneOf-gone c.self.view_is c.requires c.args.number c.take-outcome.ensures.room c.take-outcome.result c.take-outcome.ensures.removes c.credit.ensures.same c.credit.ensures.credited

pub returns-in-Collected-clause-given : goal.returns-in-Collected-clause-given
returns-in-Collected-clause-given g c = collected-got _ _ _ _ c.requires c.args.number c.take-outcome.result (ap (λ l. at l.entries c.args.number) (sym c.self.view_is) ∙ c.take-outcome.ensures.removes.was)

pub returns-in-Collected-clause-fits : goal.returns-in-Collected-clause-fits
returns-in-Collected-clause-fits g c = collected-fits _ _ _ _ c.requires c.args.number c.take-outcome.result (ap (λ l. at l.entries c.args.number) (sym c.self.view_is) ∙ c.take-outcome.ensures.removes.was)
