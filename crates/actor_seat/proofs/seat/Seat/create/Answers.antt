use Rattle.actor_seat.proofs.Kept.{LeavesEnds, kept_seated}
use Rattle.actor_seat.proofs.seat.Seat.create.Given.{Over}
use Rattle.actor_seat.proofs.seat.Seat.create.Goals as goal
use Rattle.actor_seat.proofs.seat.Seat.create.Goals.{After-create}

-- what the call left of the core
leaves : (g : Over) (c : After-create g) → LeavesEnds g.J.Task.meaning c.self.inside.recorded c.create.new.self
leaves g c = record { ins = c.create.ensures.ins; outs = c.create.ensures.outs; lanes = c.create.ensures.lanes; seat = c.create.ensures.seat; sound = c.create.ensures.sound }

pub invariant_of-self : goal.invariant_of-self
invariant_of-self g c = kept_seated (leaves g (goal.at.invariant_of-self g c).After-create) c.self.inside.ends c.self.invariant

pub returns-clause-seated : goal.returns-clause-seated
returns-clause-seated g c = kept_seated (leaves g (goal.at.returns-clause-seated g c).After-create) c.self.inside.ends c.self.invariant
