use Rattle.std.proofs.Common.{sym, subst}
use Rattle.host_core.specs.Hosted.{HasRoom, HostedView}
use Rattle.host_core.proofs.Kept.{Leaves, created_few, created_run, holds_after, hosted_after}
use Rattle.host_core.proofs.hosted.Hosted.create.Goals as goal
use Rattle.host_core.proofs.hosted.Hosted.create.Goals.{After-create}

-- what the call at the seat left
left : (c : goal.After-create) → Leaves 1 c.self.inside.seat c.create.new.self
left c = record {
  seated = c.create.ensures.seated;
  room = subst (λ (view : HostedView). HasRoom 1 view.recorded) (sym c.self.view_is) c.requires.room;
  few = created_few _ c.self.inside.seat.recorded c.create.new.self.recorded _ c.create.ensures.creates;
  keeps = created_run _ c.self.inside.seat.recorded c.create.new.self.recorded _ c.create.ensures.creates;
  seat = c.create.ensures.seat;
}

pub invariant_of-self : goal.invariant_of-self
invariant_of-self c = holds_after (left (goal.at.invariant_of-self c).After-create) c.self.inside.run c.self.invariant.1 c.self.invariant.2 c.self.invariant.3

pub returns-clause-hosted : goal.returns-clause-hosted
returns-clause-hosted c = hosted_after (left (goal.at.returns-clause-hosted c).After-create)
