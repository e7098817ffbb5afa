use Rattle.std.proofs.Common.{sym, subst}
use Rattle.actor_desk.specs.Rolls.{IsAbove}
use Rattle.actor_desk.proofs.Lanes.{next_above, IsLaneOf-accepted, IsLaneOf-refused}
use Rattle.actor_desk.proofs.lane.Lane.submit.Goals as goal

pub returns-in_err-number-clause-lane : goal.returns-in_err-number-clause-lane
returns-in_err-number-clause-lane g c = rw (c.send.ensures.credited) (IsLaneOf-refused _ _ _ _ _ c.args.order _ c.requires.lane c.in_err-number.ensures.sends)

pub put-requires-clause-above : goal.put-requires-clause-above
put-requires-clause-above g c = subst (λ l. IsAbove l.entries c.in_ok-number.number) (sym c.self.view_is) (next_above _ _ _ _ c.in_ok-number.number c.requires.lane c.in_ok-number.ensures.sends.2)

pub returns-clause-lane : goal.returns-clause-lane
returns-clause-lane g c = IsLaneOf-accepted _ c.self.view_is c.requires.lane c.send.ensures.credited c.args.order c.in_ok-number.ensures.sends c.put.ensures.adds c.put.ensures.room
