use Rattle.actor_seat.proofs.Names.{ap, arith, booked, CollectsFrom, GetsAll, refl, subst, ◌∙◌}
use Rattle.actor_seat.proofs.Adding.{collects_add}
use Rattle.actor_seat.proofs.OutsideSeats.{LendsAt, lent_beside, lent_lane, lent_room, seated_now, there_too, uses_now}
use Rattle.actor_seat.proofs.outside_seat.OutsideSeat.collect_from.Given.{Over}
use Rattle.actor_seat.proofs.outside_seat.OutsideSeat.collect_from.Goals as goal
use Rattle.actor_seat.proofs.outside_seat.OutsideSeat.collect_from.Goals.{After-out_mut}

pub out_mut-requires : goal.out_mut-requires
out_mut-requires g c = omega (arith, c.requires.there, ap (λ view. view.desk.cores) c.self.view_is, c.self.invariant.outside.outs_are)

-- the end to the core, as it is lent
lends : (g : Over) (c : After-out_mut g) → LendsAt g.J.Task.meaning c.args.self.now c.self.inside.desk c.self.inside.ends c.args.core c.args.core c.out_mut.result.now
lends g c = record { seated = c.self.invariant; is = c.self.view_is; known = c.requires.there; here = refl; lent = c.out_mut.ensures.value }

pub collect_from-requires : goal.collect_from-requires
collect_from-requires g c =
    let lent = lends g (goal.at.collect_from-requires g c).After-out_mut in
    record { beside = lent_beside lent; lane = lent_lane lent; room = lent_room lent c.requires.room }

pub invariant_of-self : goal.invariant_of-self
invariant_of-self g c = seated_now (lends g (goal.at.invariant_of-self g c).After-out_mut) c.collect_from.new.end c.collect_from.ensures.stays

pub returns-clause-collects : goal.returns-clause-collects
returns-clause-collects g c = subst (λ view. CollectsFrom c.args.core view.desk c.collect_from.result c.collect_from.new.self) c.self.view_is c.collect_from.ensures.collects

pub returns-clause-books : goal.returns-clause-books
returns-clause-books g c = c.collect_from.ensures.books ∙ ap (λ view. booked view.desk) c.self.view_is

pub returns-clause-shown : goal.returns-clause-shown
returns-clause-shown g c = there_too (lends g (goal.at.returns-clause-shown g c).After-out_mut) c.collect_from.new.end (λ was now. GetsAll was.out now.out) c.collect_from.ensures.end

pub returns-clause-uses : goal.returns-clause-uses
returns-clause-uses g c =
    uses_now (lends g (goal.at.returns-clause-uses g c).After-out_mut) c.collect_from.new.end c.collect_from.ensures.stays c.collect_from.ensures.untouched
    (collects_add c.args.core c.self.inside.desk c.collect_from.result c.collect_from.new.self c.collect_from.ensures.collects).grows
