use Rattle.std.proofs.Common.{inr, sym, subst}
use Rattle.actor_seat.specs.Linked.{StaysLinked}
use Rattle.actor_seat.proofs.Adding.{detaches_add}
use Rattle.host_core.specs.Hosted.{HasRoom, HostedView}
use Rattle.host_core.specs.Submissions.{Detaches}
use Rattle.host_core.proofs.Kept.{Leaves, holds_after, hosted_after, rest_run}
use Rattle.host_core.proofs.hosted.Hosted.detach.Goals as goal
use Rattle.host_core.proofs.hosted.Hosted.detach.Goals.{After-detach}

-- what the call at the seat left
left : (c : goal.After-detach) → Leaves 1 c.self.inside.seat c.detach.new.self
left c = record {
  seated = c.detach.ensures.seated;
  room = subst (λ (view : HostedView). HasRoom 1 view.recorded) (sym c.self.view_is) (c.has_room.ensures.0 c.if-not-has_room.false);
  few = (detaches_add _ _ _ _ c.detach.ensures.does.detaches).few;
  keeps = rest_run c.self.inside.seat.recorded c.detach.new.self.recorded c.detach.ensures.does.rest;
  seat = c.detach.ensures.does.stays.seat;
}

pub invariant_of-self : goal.invariant_of-self
invariant_of-self c = holds_after (left (goal.at.invariant_of-self c).After-detach) c.self.inside.run c.self.invariant.1 c.self.invariant.2 c.self.invariant.3

pub returns-clause-hosted : goal.returns-clause-hosted
returns-clause-hosted c = hosted_after (left (goal.at.returns-clause-hosted c).After-detach)

pub returns-clause-stays : goal.returns-clause-stays
returns-clause-stays c = subst (λ (old : HostedView). StaysLinked old c.detach.new.self) c.self.view_is c.detach.ensures.does.stays

pub returns-clause-detaches : goal.returns-clause-detaches
returns-clause-detaches c =
    let does = c.detach.ensures.does in
    subst (λ (old : HostedView). Detaches c.args.ticket old c.told_detached.result c.detach.new.self) c.self.view_is (inr (
      (left (goal.at.returns-clause-detaches c).After-detach).room,
      record {
        answer = c.detach.result;
        detaches = does.detaches;
        refused = does.refused;
        told_is = c.told_detached.ensures;
        rest = does.rest;
      },
    ))
