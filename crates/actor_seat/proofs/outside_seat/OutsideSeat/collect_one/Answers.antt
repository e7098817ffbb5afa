use Rattle.actor_seat.proofs.Names.{ap, arith, refl, subst}
use Rattle.actor_desk.specs.Tickets.{GetsNext}
use Rattle.actor_seat.proofs.Adding.{next_adds}
use Rattle.actor_seat.proofs.OutsideSeats.{LendsAt, lent_beside, lent_lane, lent_room, seated_now, there_too, uses_now}
use Rattle.actor_seat.proofs.outside_seat.OutsideSeat.collect_one.Given.{Over}
use Rattle.actor_seat.proofs.outside_seat.OutsideSeat.collect_one.Goals as goal
use Rattle.actor_seat.proofs.outside_seat.OutsideSeat.collect_one.Goals.{After-out_mut}

pub out_mut-requires : goal.out_mut-requires
out_mut-requires g c = omega (arith, c.requires.there, ap (λ view. view.desk.cores) c.self.view_is, c.self.invariant.outside.outs_are)

-- the end to the core, as it is lent
lends : (g : Over) (c : After-out_mut g) → LendsAt g.J.Task.meaning c.args.self.now c.self.inside.desk c.self.inside.ends c.args.core c.args.core c.out_mut.result.now
lends g c = record { seated = c.self.invariant; is = c.self.view_is; known = c.requires.there; here = refl; lent = c.out_mut.ensures.value }

pub collect_one-requires : goal.collect_one-requires
collect_one-requires g c =
    let lent = lends g (goal.at.collect_one-requires g c).After-out_mut in
    record { beside = lent_beside lent; lane = lent_lane lent; room = lent_room lent c.requires.room }

pub invariant_of-self : goal.invariant_of-self
invariant_of-self g c = seated_now (lends g (goal.at.invariant_of-self g c).After-out_mut) c.collect_one.new.end c.collect_one.ensures.stays

pub returns-clause-gets : goal.returns-clause-gets
returns-clause-gets g c =
    there_too (lends g (goal.at.returns-clause-gets g c).After-out_mut) c.collect_one.new.end (λ was now. GetsNext c.args.core c.args.self.now.desk c.collect_one.new.self was.out now.out c.collect_one.result)
    (subst (λ view. GetsNext c.args.core view.desk c.collect_one.new.self c.out_mut.result.now.out c.collect_one.new.end.out c.collect_one.result) c.self.view_is c.collect_one.ensures.gets)

pub returns-clause-uses : goal.returns-clause-uses
returns-clause-uses g c = uses_now (lends g (goal.at.returns-clause-uses g c).After-out_mut) c.collect_one.new.end c.collect_one.ensures.stays c.collect_one.ensures.untouched (next_adds c.args.core c.self.inside.desk c.collect_one.new.self _ _ c.collect_one.result c.collect_one.ensures.gets).grows
