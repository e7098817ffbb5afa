use Rattle.std.proofs.Common.{sym, subst, ◌∙◌, ap}
use Rattle.actor_seat.specs.Linked.{StaysLinked}
use Rattle.actor_seat.specs.Steps.{CollectsOne}
use Rattle.host_core.specs.Hosted.{HasRoom, HostedView}
use Rattle.host_core.proofs.Kept.{Leaves, holds_after, hosted_after, rest_run}
use Rattle.host_core.proofs.hosted.Hosted.collect_one.Goals as goal
use Rattle.host_core.proofs.hosted.Hosted.collect_one.Goals.{After-collect_one}

-- what the call at the seat left
left : (c : goal.After-collect_one) → Leaves c.self.inside.seat.recorded.cap c.self.inside.seat c.collect_one.new.self
left c = record {
  seated = c.collect_one.ensures.seated;
  room =
      subst (λ (view : HostedView). HasRoom c.self.inside.seat.recorded.cap view.recorded) (sym c.self.view_is)
      (subst (λ count. HasRoom count c.args.self.now.recorded) (c.cap.ensures.cap ∙ ap (λ view. view.cap) c.recorded.ensures.same) (c.has_room.ensures.0 c.if-not-has_room.false));
  few = c.collect_one.ensures.does.few;
  keeps = rest_run c.self.inside.seat.recorded c.collect_one.new.self.recorded c.collect_one.ensures.does.rest;
  seat = c.collect_one.ensures.does.stays.seat;
}

pub invariant_of-self : goal.invariant_of-self
invariant_of-self c = holds_after (left (goal.at.invariant_of-self c).After-collect_one) c.self.inside.run c.self.invariant.1 c.self.invariant.2 c.self.invariant.3

pub returns-clause-hosted : goal.returns-clause-hosted
returns-clause-hosted c = hosted_after (left (goal.at.returns-clause-hosted c).After-collect_one)

pub returns-clause-stays : goal.returns-clause-stays
returns-clause-stays c = subst (λ (old : HostedView). StaysLinked old c.collect_one.new.self) c.self.view_is c.collect_one.ensures.does.stays

pub returns-clause-collects : goal.returns-clause-collects
returns-clause-collects c = subst (λ (old : HostedView). CollectsOne c.args.core old c.collect_one.result c.collect_one.new.self) c.self.view_is c.collect_one.ensures.does
