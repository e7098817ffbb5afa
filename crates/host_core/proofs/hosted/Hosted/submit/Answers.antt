use Rattle.std.proofs.Common.{inr, sym, subst, arith}
use Rattle.actor_seat.specs.Linked.{StaysLinked}
use Rattle.actor_seat.proofs.Adding.{submits_add}
use Rattle.host_core.specs.Hosted.{HasRoom, HostedView}
use Rattle.host_core.specs.Submissions.{Posts, SubmitsTo, order_of_host}
use Rattle.host_core.proofs.Kept.{Leaves, holds_after, hosted_after, rest_run}
use Rattle.host_core.proofs.hosted.Hosted.submit.Goals as goal
use Rattle.host_core.proofs.hosted.Hosted.submit.Goals.{After-submit}

-- what the call at the seat left
left : (c : goal.After-submit) → Leaves 1 c.self.inside.seat c.submit.new.self
left c = record {
  seated = c.submit.ensures.seated;
  room = subst (λ (view : HostedView). HasRoom 1 view.recorded) (sym c.self.view_is) (c.has_room.ensures.0 c.if-not-has_room.false);
  few = (submits_add _ _ _ _ _ c.submit.ensures.does.submits).few;
  keeps = rest_run c.self.inside.seat.recorded c.submit.new.self.recorded c.submit.ensures.does.rest;
  seat = c.submit.ensures.does.stays.seat;
}

pub invariant_of-self : goal.invariant_of-self
invariant_of-self c = holds_after (left (goal.at.invariant_of-self c).After-submit) c.self.inside.run c.self.invariant.1 c.self.invariant.2 c.self.invariant.3

pub returns-clause-hosted : goal.returns-clause-hosted
returns-clause-hosted c = hosted_after (left (goal.at.returns-clause-hosted c).After-submit)

pub returns-clause-stays : goal.returns-clause-stays
returns-clause-stays c = subst (λ (old : HostedView). StaysLinked old c.submit.new.self) c.self.view_is c.submit.ensures.does.stays

pub returns-clause-posts : goal.returns-clause-posts
returns-clause-posts c =
    let does = c.submit.ensures.does in
    let submits : SubmitsTo c.args.to c.host_order-order.result c.self.inside.seat c.told_sent.result c.submit.new.self =
    record { answer = c.submit.result; submits = does.submits; sends = does.sends; told_is = c.told_sent.ensures; uses = does.uses; rest = does.rest } in
    subst (λ (old : HostedView). Posts c.args.to (order_of_host c.args.order) old c.told_sent.result c.submit.new.self) c.self.view_is (inr (inr (
      omega (arith, c.self.invariant.2, c.if-to-self.false),
      (left (goal.at.returns-clause-posts c).After-submit).room,
      subst (λ order. SubmitsTo c.args.to order c.self.inside.seat c.told_sent.result c.submit.new.self) c.host_order-order.ensures.same submits,
    )))
