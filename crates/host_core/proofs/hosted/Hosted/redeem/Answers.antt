use Rattle.std.proofs.Common.{inr, sym, subst}
use Rattle.actor_seat.specs.Linked.{StaysLinked}
use Rattle.actor_seat.proofs.Adding.{redeems_add}
use Rattle.host_core.specs.Hosted.{HasRoom, HostedView}
use Rattle.host_core.specs.Submissions.{Redeems}
use Rattle.host_core.proofs.Kept.{Leaves, holds_after, hosted_after, rest_run}
use Rattle.host_core.proofs.hosted.Hosted.redeem.Goals as goal
use Rattle.host_core.proofs.hosted.Hosted.redeem.Goals.{After-redeem}

-- what the call at the seat left
left : (c : goal.After-redeem) → Leaves 1 c.self.inside.seat c.redeem.new.self
left c = record {
  seated = c.redeem.ensures.seated;
  room = subst (λ (view : HostedView). HasRoom 1 view.recorded) (sym c.self.view_is) (c.has_room.ensures.0 c.if-not-has_room.false);
  few = (redeems_add _ _ _ _ c.redeem.ensures.does.redeems).few;
  keeps = rest_run c.self.inside.seat.recorded c.redeem.new.self.recorded c.redeem.ensures.does.rest;
  seat = c.redeem.ensures.does.stays.seat;
}

pub invariant_of-self : goal.invariant_of-self
invariant_of-self c = holds_after (left (goal.at.invariant_of-self c).After-redeem) c.self.inside.run c.self.invariant.1 c.self.invariant.2 c.self.invariant.3

pub returns-clause-hosted : goal.returns-clause-hosted
returns-clause-hosted c = hosted_after (left (goal.at.returns-clause-hosted c).After-redeem)

pub returns-clause-stays : goal.returns-clause-stays
returns-clause-stays c = subst (λ (old : HostedView). StaysLinked old c.redeem.new.self) c.self.view_is c.redeem.ensures.does.stays

pub returns-clause-redeems : goal.returns-clause-redeems
returns-clause-redeems c =
    let does = c.redeem.ensures.does in
    subst (λ (old : HostedView). Redeems c.args.ticket old c.told_redeemed.result c.redeem.new.self) c.self.view_is (inr (
      (left (goal.at.returns-clause-redeems c).After-redeem).room,
      record {
        answer = c.redeem.result;
        redeems = does.redeems;
        fits = does.fits;
        refused = does.refused;
        told_is = c.told_redeemed.ensures;
        rest = does.rest;
      },
    ))
