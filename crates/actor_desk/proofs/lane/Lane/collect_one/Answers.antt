use Rattle.actor_desk.proofs.Collected.{IsLaneOf-none}
use Rattle.actor_desk.proofs.lane.Lane.collect_one.Goals as goal

pub returns-in_default-clause-lane : goal.returns-in_default-clause-lane
returns-in_default-clause-lane g c = IsLaneOf-none c.requires c.collect.ensures.credited c.collect.ensures.sound c.collect.ensures.named c.in_default.ensures.collects
