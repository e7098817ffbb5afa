use Rattle.std.proofs.Common.{sym, subst, ◌∙◌, ap}
use Rattle.actor_seat.specs.Linked.{StaysLinked}
use Rattle.actor_seat.specs.Steps.{CollectsOf}
use Rattle.actor_seat.proofs.Fewer.{collected_few}
use Rattle.host_core.specs.Hosted.{HasRoom, HostedView}
use Rattle.host_core.proofs.Kept.{Leaves, holds_after, hosted_after, rest_run}
use Rattle.host_core.proofs.hosted.Hosted.collect.Goals as goal
use Rattle.host_core.proofs.hosted.Hosted.collect.Goals.{After-collect_from}

-- what the call at the seat left
left : (c : goal.After-collect_from) → Leaves c.self.inside.seat.recorded.cap c.self.inside.seat c.collect_from.new.self
left c = record {
  seated = c.collect_from.ensures.seated;
  room =
      subst (λ (view : HostedView). HasRoom c.self.inside.seat.recorded.cap view.recorded) (sym c.self.view_is)
      (subst (λ count. HasRoom count c.args.self.now.recorded) (c.cap.ensures.cap ∙ ap (λ view. view.cap) c.recorded.ensures.same) (c.has_room.ensures.0 c.if-not-has_room.false));
  few = collected_few c.args.core c.collect_from.result c.self.inside.seat c.collect_from.new.self c.collect_from.ensures.does;
  keeps = rest_run c.self.inside.seat.recorded c.collect_from.new.self.recorded c.collect_from.ensures.does.rest;
  seat = c.collect_from.ensures.does.stays.seat;
}

pub invariant_of-self : goal.invariant_of-self
invariant_of-self c = holds_after (left (goal.at.invariant_of-self c).After-collect_from) c.self.inside.run c.self.invariant.1 c.self.invariant.2 c.self.invariant.3

pub returns-clause-hosted : goal.returns-clause-hosted
returns-clause-hosted c = hosted_after (left (goal.at.returns-clause-hosted c).After-collect_from)

pub returns-clause-stays : goal.returns-clause-stays
returns-clause-stays c = subst (λ (old : HostedView). StaysLinked old c.collect_from.new.self) c.self.view_is c.collect_from.ensures.does.stays

pub returns-clause-collects : goal.returns-clause-collects
returns-clause-collects c = subst (λ (old : HostedView). CollectsOf c.args.core old c.collect_from.result c.collect_from.new.self) c.self.view_is c.collect_from.ensures.does
