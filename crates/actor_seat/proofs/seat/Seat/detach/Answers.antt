use Rattle.actor_seat.proofs.Names.{ap, arith, DetachesOn, Err, length, refl, subst, sym, ◌<◌}
use Rattle.base_words.specs.declared.names.TicketError.TheVariants.{Unknown}
use Rattle.actor_seat.proofs.Adding.{detaches_add}
use Rattle.actor_seat.proofs.Along.{stays_same}
use Rattle.actor_seat.proofs.LentOut.{LendsOn, as_out, out_beside, out_lane, out_seated, out_stays, out_uses, seated_here, so_of_view}
use Rattle.actor_seat.proofs.LinkedCalls.{detached_linked}
use Rattle.actor_seat.proofs.Untouched.{linked_stays, detach_leaves}
use Rattle.actor_seat.proofs.seat.Seat.detach.Given.{Over}
use Rattle.actor_seat.proofs.seat.Seat.detach.Goals as goal
use Rattle.actor_seat.proofs.seat.Seat.detach.Goals.{After-out_mut}

-- the end to the core of the ticket, as it is lent
lends : (g : Over) (c : After-out_mut g) → LendsOn g.J.Task.meaning c.args.self.now c.self.inside.recorded c.self.inside.ends c.args.ticket.to c.name-to.result.to c.out_mut.result.now
lends g c = record { seated = c.self.invariant; is = c.self.view_is; known = (c.knows.ensures.knows.0 c.if-not-knows.false).1; here = ap (λ name. name.to) c.name-to.ensures; lent = c.out_mut.ensures.value }

pub returns-then-not-knows-clause-does : goal.returns-then-not-knows-clause-does
returns-then-not-knows-clause-does g c =
    subst (λ old. DetachesOn c.args.ticket old (Err Unknown) old) c.self.view_is
    (record { detaches = (c.knows.ensures.unknown c.if-not-knows.true, refl); refused = refl; uses = record { others = λ other away. refl; rest = refl }; rest = refl; stays = stays_same _ })

pub out_mut-requires : goal.out_mut-requires
out_mut-requires g c = omega (arith, c.self.invariant.beside.outs.count, (c.knows.ensures.knows.0 c.if-not-knows.false).1, ap (λ name. name.to) c.name-to.ensures)

pub detach-requires : goal.detach-requires
detach-requires g c =
    let lent = lends g (goal.at.detach-requires g c).After-out_mut in
    record { beside = out_beside (as_out lent); lane = out_lane (as_out lent); room = λ held. subst (λ view. length view.recorded.journal.notes < view.recorded.journal.room) (sym c.self.view_is) c.requires.room }

pub invariant_of-self : goal.invariant_of-self
invariant_of-self g c = out_seated (lends g (goal.at.invariant_of-self g c).After-out_mut) c.detach.new.self c.detach.new.end c.detach.ensures.stays c.detach.ensures.ins c.detach.ensures.seat c.detach.ensures.sound

pub returns-clause-seated : goal.returns-clause-seated
returns-clause-seated g c = out_seated (lends g (goal.at.returns-clause-seated g c).After-out_mut) c.detach.new.self c.detach.new.end c.detach.ensures.stays c.detach.ensures.ins c.detach.ensures.seat c.detach.ensures.sound

pub returns-clause-does : goal.returns-clause-does
returns-clause-does g c =
    let lent = lends g (goal.at.returns-clause-does g c).After-out_mut in
    so_of_view lent c.detach.new.self c.detach.new.end (λ old. DetachesOn c.args.ticket old c.detach.result) (record {
      detaches = c.detach.ensures.detaches;
      refused = linked_stays c.detach.result c.detach.ensures.untouched c.detach.ensures.out c.self.inside.recorded c.detach.new.self (as_out lent) c.detach.ensures.rest c.detach.ensures.stays (detach_leaves _ _ _ _ c.detach.ensures.detaches);
      uses = out_uses (as_out lent) c.detach.new.end;
      rest = c.detach.ensures.rest;
      stays = out_stays lent c.detach.new.self c.detach.new.end c.detach.ensures.seat c.detach.ensures.untouched (omega (arith, ap (λ out. length out.seen) c.detach.ensures.out)) (detaches_add _ _ _ _ c.detach.ensures.detaches);
    })

pub returns-clause-linked : goal.returns-clause-linked
returns-clause-linked g c =
    let lent = lends g (goal.at.returns-clause-linked g c).After-out_mut in
    detached_linked lent c.detach.new.self c.detach.new.end c.detach.ensures.rest (seated_here lent c.detach.new.self c.detach.new.end c.detach.ensures.stays c.detach.ensures.ins c.detach.ensures.seat c.detach.ensures.sound)
    c.args.ticket c.detach.result c.detach.ensures.out c.detach.ensures.detaches
