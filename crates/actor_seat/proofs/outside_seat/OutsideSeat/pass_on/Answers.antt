use Rattle.actor_seat.proofs.Names.{ap, Fits, IsSeatedOutside}
use Rattle.actor_seat.proofs.OutsideSeats.{seated_passed}
use Rattle.actor_seat.proofs.outside_seat.OutsideSeat.pass_on.Given.{Over}
use Rattle.actor_seat.proofs.outside_seat.OutsideSeat.pass_on.Goals as goal
use Rattle.actor_seat.proofs.outside_seat.OutsideSeat.pass_on.Goals.{After-pass_on}

-- it is seated as before
seated_now : (g : Over) (c : After-pass_on g) → IsSeatedOutside (Fits g.J.Task.meaning) (record { desk = c.pass_on.new.self; ends = c.self.inside.ends })
seated_now g c = seated_passed g.J.Task.meaning g.S.Sink.has g.S.Sink.refused c.self.inside.desk c.pass_on.new.self c.self.inside.ends _ _ c.pass_on.result c.pass_on.ensures.passes c.pass_on.ensures.rest c.self.invariant

pub invariant_of-self : goal.invariant_of-self
invariant_of-self g c = seated_now g (goal.at.invariant_of-self g c).After-pass_on

pub returns-clause-seated : goal.returns-clause-seated
returns-clause-seated g c = seated_now g (goal.at.returns-clause-seated g c).After-pass_on

pub returns-clause-rest : goal.returns-clause-rest
returns-clause-rest g c = rw (← c.self.view_is) (ap (λ desk. record { desk = desk; ends = c.self.inside.ends }) c.pass_on.ensures.rest)
