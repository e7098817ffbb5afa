use Rattle.std.proofs.Common.{inl, inr, subst}
use Rattle.actor_desk.specs.Held.{at}
use Rattle.actor_desk.specs.Steps.{StandsAs}
use Rattle.actor_desk.proofs.Collected.{not_none, not_collected, IsLaneOf-collected, IsLaneOf-let_go}
use Rattle.actor_desk.proofs.lane.Lane.keep.Goals as goal

pub returns-in-Pending-clause-lane : goal.returns-in-Pending-clause-lane
returns-in-Pending-clause-lane g c = IsLaneOf-collected c.self.view_is c.requires c.keep.ensures.room c.keep.ensures.becomes

pub returns-in-Detached-clause-lane : goal.returns-in-Detached-clause-lane
returns-in-Detached-clause-lane g c = IsLaneOf-let_go c.self.view_is c.requires c.forget.ensures.room c.forget.ensures.removes c.credit.ensures.same c.credit.ensures.credited

pub unreachable-requires : goal.unreachable-requires
unreachable-requires g c =
    let entry = at c.self.inside.shelf.entries c.args.number in
    elim c.in-Nothing.is [
      | inl nothing ↦ not_none c.self.view_is c.requires (subst (λ s. StandsAs s entry) nothing c.standing.ensures)
      | inr collected ↦ let there = subst (λ s. StandsAs s entry) collected c.standing.ensures in not_collected c.self.view_is c.requires there.0 there.1
    ]
