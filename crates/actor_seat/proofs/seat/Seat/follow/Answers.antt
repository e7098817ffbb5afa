use Rattle.actor_seat.proofs.AddedTurns.{adds_followed}
use Rattle.actor_seat.proofs.Kept.{LeavesEnds, kept_seated, kept_stays}
use Rattle.actor_seat.proofs.seat.Seat.follow.Given.{Over}
use Rattle.actor_seat.proofs.seat.Seat.follow.Goals as goal
use Rattle.actor_seat.proofs.seat.Seat.follow.Goals.{After-follow}

-- what the call left of the core
leaves : (g : Over) (c : After-follow g) → LeavesEnds g.J.Task.meaning c.self.inside.recorded c.follow.new.self
leaves g c = record { ins = c.follow.ensures.ins; outs = c.follow.ensures.outs; lanes = c.follow.ensures.lanes; seat = c.follow.ensures.seat; sound = c.follow.ensures.sound }

pub invariant_of-self : goal.invariant_of-self
invariant_of-self g c = kept_seated (leaves g (goal.at.invariant_of-self g c).After-follow) c.self.inside.ends c.self.invariant

pub returns-clause-seated : goal.returns-clause-seated
returns-clause-seated g c = kept_seated (leaves g (goal.at.returns-clause-seated g c).After-follow) c.self.inside.ends c.self.invariant

pub returns-clause-stays : goal.returns-clause-stays
returns-clause-stays g c =
    kept_stays (leaves g (goal.at.returns-clause-stays g c).After-follow) c.self.inside.ends c.self.view_is (adds_followed c.self.inside.recorded c.follow.new.self c.follow.result c.follow.ensures.follows)
