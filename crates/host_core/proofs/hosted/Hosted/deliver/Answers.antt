use Rattle.std.proofs.Common.{sym, subst}
use Rattle.actor_seat.specs.Linked.{StaysLinked}
use Rattle.actor_seat.specs.Steps.{DeliversFrom}
use Rattle.actor_seat.proofs.Fewer.{delivered_few}
use Rattle.host_core.specs.Hosted.{HasRoom, HostedView}
use Rattle.host_core.proofs.Kept.{Leaves, delivered_run, holds_after, hosted_after}
use Rattle.host_core.proofs.hosted.Hosted.deliver.Goals as goal
use Rattle.host_core.proofs.hosted.Hosted.deliver.Goals.{After-deliver}

-- what the call at the seat left
left : (c : goal.After-deliver) → Leaves 2 c.self.inside.seat c.deliver.new.self
left c = record {
  seated = c.deliver.ensures.seated;
  room = subst (λ (view : HostedView). HasRoom 2 view.recorded) (sym c.self.view_is) (c.has_room.ensures.0 c.if-not-has_room.false);
  few = delivered_few c.args.sender c.deliver.result c.self.inside.seat c.deliver.new.self c.deliver.ensures.does;
  keeps = delivered_run c.self.inside.seat.recorded c.deliver.new.self.recorded _ _ c.deliver.result c.deliver.ensures.does.delivers;
  seat = c.deliver.ensures.does.stays.seat;
}

pub invariant_of-self : goal.invariant_of-self
invariant_of-self c = holds_after (left (goal.at.invariant_of-self c).After-deliver) c.self.inside.run c.self.invariant.1 c.self.invariant.2 c.self.invariant.3

pub returns-clause-hosted : goal.returns-clause-hosted
returns-clause-hosted c = hosted_after (left (goal.at.returns-clause-hosted c).After-deliver)

pub returns-clause-stays : goal.returns-clause-stays
returns-clause-stays c = subst (λ (old : HostedView). StaysLinked old c.deliver.new.self) c.self.view_is c.deliver.ensures.does.stays

pub returns-clause-hears : goal.returns-clause-hears
returns-clause-hears c = subst (λ (old : HostedView). DeliversFrom c.args.sender old c.deliver.result c.deliver.new.self) c.self.view_is c.deliver.ensures.does
