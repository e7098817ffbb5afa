use Rattle.actor_desk.proofs.Collected.{IsLaneOf-gone, IsLaneOf-waits_for_none}
use Rattle.actor_desk.proofs.lane.Lane.detach.Goals as goal

pub returns-in-Pending-clause-lane : goal.returns-in-Pending-clause-lane
returns-in-Pending-clause-lane g c = IsLaneOf-waits_for_none c.self.view_is c.requires c.args.number c.let_go.ensures.room c.let_go.ensures.becomes

pub returns-in-Collected-clause-lane : goal.returns-in-Collected-clause-lane
returns-in-Collected-clause-lane g c = IsLaneOf-gone c.self.view_is c.requires c.args.number c.take.ensures.room c.take.result c.take.ensures.removes c.credit.ensures.same c.credit.ensures.credited
