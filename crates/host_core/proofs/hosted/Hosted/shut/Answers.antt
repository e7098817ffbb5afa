use Rattle.std.proofs.Common.{◌≡◌, ◌+◌, ap, length, sym, subst, ◌∙◌, arith}
use Rattle.actor_seat.specs.Linked.{StaysLinked}
use Rattle.actor_seat.specs.Steps.{ShutsGate}
use Rattle.host_core.specs.Hosted.{HasRoom, HostedView}
use Rattle.host_core.proofs.Kept.{Leaves, holds_after, hosted_after, same_run}
use Rattle.host_core.proofs.hosted.Hosted.shut.Goals as goal
use Rattle.host_core.proofs.hosted.Hosted.shut.Goals.{After-shut}

-- what the call at the seat left
left : (c : goal.After-shut) → Leaves 1 c.self.inside.seat c.shut.new.self
left c = record {
  seated = c.shut.ensures.seated;
  room = subst (λ (view : HostedView). HasRoom 1 view.recorded) (sym c.self.view_is) (c.has_room.ensures.0 c.if-not-has_room.false);
  few =
      let longer : length c.shut.new.self.recorded.journal.notes ≡ length c.self.inside.seat.recorded.journal.notes + 1 = ap (λ journal. length journal.notes) c.shut.ensures.does.tells.journal ∙ omega arith in
      omega (arith, longer);
  keeps = same_run c.self.inside.seat.recorded.core.out c.shut.new.self.recorded.core.out c.shut.ensures.does.tells.out;
  seat = c.shut.ensures.does.stays.seat;
}

pub invariant_of-self : goal.invariant_of-self
invariant_of-self c = holds_after (left (goal.at.invariant_of-self c).After-shut) c.self.inside.run c.self.invariant.1 c.self.invariant.2 c.self.invariant.3

pub returns-clause-hosted : goal.returns-clause-hosted
returns-clause-hosted c = hosted_after (left (goal.at.returns-clause-hosted c).After-shut)

pub returns-clause-stays : goal.returns-clause-stays
returns-clause-stays c = subst (λ (old : HostedView). StaysLinked old c.shut.new.self) c.self.view_is c.shut.ensures.does.stays

pub returns-clause-shuts : goal.returns-clause-shuts
returns-clause-shuts c = subst (λ (old : HostedView). ShutsGate c.args.sender old c.shut.new.self) c.self.view_is c.shut.ensures.does
