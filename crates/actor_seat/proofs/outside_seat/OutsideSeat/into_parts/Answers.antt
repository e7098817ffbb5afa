use Rattle.actor_seat.proofs.Names.{Fits, IsSeatedOutside, subst}
use Rattle.actor_seat.proofs.outside_seat.OutsideSeat.into_parts.Goals as goal

pub returns-clause-seated : goal.returns-clause-seated
returns-clause-seated g c = subst (IsSeatedOutside (Fits g.J.Task.meaning)) c.self.view_is c.self.invariant
