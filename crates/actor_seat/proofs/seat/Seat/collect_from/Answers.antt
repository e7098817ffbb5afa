use Rattle.actor_seat.proofs.Names.{ap, arith, refl}
use Rattle.actor_seat.proofs.LentOut.{LendsOn, as_out, collected_does, collected_linked, out_beside, out_lane, out_room, out_seated, seated_here}
use Rattle.actor_seat.proofs.seat.Seat.collect_from.Given.{Over}
use Rattle.actor_seat.proofs.seat.Seat.collect_from.Goals as goal
use Rattle.actor_seat.proofs.seat.Seat.collect_from.Goals.{After-out_mut}

-- the end to the core, as it is lent
lends : (g : Over) (c : After-out_mut g) → LendsOn g.J.Task.meaning c.args.self.now c.self.inside.recorded c.self.inside.ends c.args.core c.args.core c.out_mut.result.now
lends g c = record { seated = c.self.invariant; is = c.self.view_is; known = omega (arith, c.requires.known, ap (λ view. view.recorded.core.cores) c.self.view_is); here = refl; lent = c.out_mut.ensures.value }

pub out_mut-requires : goal.out_mut-requires
out_mut-requires g c = omega (arith, c.self.invariant.beside.outs.count, c.requires.known, ap (λ view. view.recorded.core.cores) c.self.view_is)

pub collect_from-requires : goal.collect_from-requires
collect_from-requires g c =
    let lent = lends g (goal.at.collect_from-requires g c).After-out_mut in
    record { beside = out_beside (as_out lent); lane = out_lane (as_out lent); room = out_room lent c.requires.room }

pub invariant_of-self : goal.invariant_of-self
invariant_of-self g c = out_seated (lends g (goal.at.invariant_of-self g c).After-out_mut) c.collect_from.new.self c.collect_from.new.end c.collect_from.ensures.stays c.collect_from.ensures.ins c.collect_from.ensures.seat c.collect_from.ensures.sound

pub returns-clause-seated : goal.returns-clause-seated
returns-clause-seated g c = out_seated (lends g (goal.at.returns-clause-seated g c).After-out_mut) c.collect_from.new.self c.collect_from.new.end c.collect_from.ensures.stays c.collect_from.ensures.ins c.collect_from.ensures.seat c.collect_from.ensures.sound

pub returns-clause-does : goal.returns-clause-does
returns-clause-does g c =
    collected_does (lends g (goal.at.returns-clause-does g c).After-out_mut) c.collect_from.new.self c.collect_from.new.end
    c.collect_from.result c.collect_from.ensures.collects c.collect_from.ensures.end c.collect_from.ensures.rest c.collect_from.ensures.seat c.collect_from.ensures.untouched c.collect_from.ensures.few

pub returns-clause-linked : goal.returns-clause-linked
returns-clause-linked g c =
    let lent = lends g (goal.at.returns-clause-linked g c).After-out_mut in
    collected_linked lent c.collect_from.new.self c.collect_from.new.end c.collect_from.result c.collect_from.ensures.collects c.collect_from.ensures.end c.collect_from.ensures.rest
    (seated_here lent c.collect_from.new.self c.collect_from.new.end c.collect_from.ensures.stays c.collect_from.ensures.ins c.collect_from.ensures.seat c.collect_from.ensures.sound)
