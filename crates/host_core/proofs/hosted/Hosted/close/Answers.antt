use Rattle.std.proofs.Common.{sym, subst}
use Rattle.actor_seat.specs.Linked.{StaysLinked}
use Rattle.actor_seat.proofs.AddedTurns.{adds_closing}
use Rattle.host_core.specs.Hosted.{HasRoom, HostedView}
use Rattle.host_core.proofs.Kept.{Leaves, closed_run, holds_after, hosted_after}
use Rattle.host_core.proofs.hosted.Hosted.close.Goals as goal
use Rattle.host_core.proofs.hosted.Hosted.close.Goals.{After-close}

-- what the call at the seat left
left : (c : goal.After-close) → Leaves 1 c.self.inside.seat c.close.new.self
left c = record {
  seated = c.close.ensures.seated;
  room = subst (λ (view : HostedView). HasRoom 1 view.recorded) (sym c.self.view_is) (c.has_room.ensures.0 c.if-not-has_room.false);
  few = (adds_closing c.self.inside.seat.recorded c.close.new.self.recorded _ _ c.close.ensures.closes).few;
  keeps = closed_run c.self.inside.seat.recorded c.close.new.self.recorded _ _ c.close.ensures.closes;
  seat = c.close.ensures.stays.seat;
}

pub invariant_of-self : goal.invariant_of-self
invariant_of-self c = holds_after (left (goal.at.invariant_of-self c).After-close) c.self.inside.run c.self.invariant.1 c.self.invariant.2 c.self.invariant.3

pub returns-clause-hosted : goal.returns-clause-hosted
returns-clause-hosted c = hosted_after (left (goal.at.returns-clause-hosted c).After-close)

pub returns-clause-stays : goal.returns-clause-stays
returns-clause-stays c = subst (λ (old : HostedView). StaysLinked old c.close.new.self) c.self.view_is c.close.ensures.stays
