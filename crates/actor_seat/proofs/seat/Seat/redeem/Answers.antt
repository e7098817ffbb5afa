use Rattle.actor_seat.proofs.Names.{ap, arith, Err, Fits, FitsSent, length, RedeemsOn, refl, subst, sym, ◌<◌}
use Rattle.base_words.specs.declared.names.TicketError.TheVariants.{Unknown}
use Rattle.actor_seat.proofs.Adding.{redeems_add}
use Rattle.actor_seat.proofs.Along.{stays_same}
use Rattle.actor_seat.proofs.LentOut.{LendsOn, as_out, out_beside, out_fits, out_lane, out_seated, out_stays, out_uses, so_of_view}
use Rattle.actor_seat.proofs.Untouched.{linked_stays, redeem_leaves}
use Rattle.actor_seat.proofs.seat.Seat.redeem.Given.{Over}
use Rattle.actor_seat.proofs.seat.Seat.redeem.Goals as goal
use Rattle.actor_seat.proofs.seat.Seat.redeem.Goals.{After-out_mut}

-- the end to the core of the ticket, as it is lent
lends : (g : Over) (c : After-out_mut g) → LendsOn g.J.Task.meaning c.args.self.now c.self.inside.recorded c.self.inside.ends c.args.ticket.to c.name-to.result.to c.out_mut.result.now
lends g c = record { seated = c.self.invariant; is = c.self.view_is; known = (c.knows.ensures.knows.0 c.if-not-knows.false).1; here = ap (λ name. name.to) c.name-to.ensures; lent = c.out_mut.ensures.value }

pub returns-then-not-knows-clause-does : goal.returns-then-not-knows-clause-does
returns-then-not-knows-clause-does g c =
    subst (λ old. RedeemsOn g.J.Task.meaning c.args.ticket old (Err Unknown) old) c.self.view_is
    (record { redeems = (c.knows.ensures.unknown c.if-not-knows.true, refl); fits = tt; refused = refl; uses = record { others = λ other away. refl; rest = refl }; rest = refl; stays = stays_same _ })

pub out_mut-requires : goal.out_mut-requires
out_mut-requires g c = omega (arith, c.self.invariant.beside.outs.count, (c.knows.ensures.knows.0 c.if-not-knows.false).1, ap (λ name. name.to) c.name-to.ensures)

pub redeem-requires : goal.redeem-requires
redeem-requires g c =
    let lent = lends g (goal.at.redeem-requires g c).After-out_mut in
    record { beside = out_beside (as_out lent); lane = out_lane (as_out lent); room = λ held. subst (λ view. length view.recorded.journal.notes < view.recorded.journal.room) (sym c.self.view_is) c.requires.room }

pub invariant_of-self : goal.invariant_of-self
invariant_of-self g c = out_seated (lends g (goal.at.invariant_of-self g c).After-out_mut) c.redeem.new.self c.redeem.new.end c.redeem.ensures.stays c.redeem.ensures.ins c.redeem.ensures.seat c.redeem.ensures.sound

pub returns-clause-seated : goal.returns-clause-seated
returns-clause-seated g c = out_seated (lends g (goal.at.returns-clause-seated g c).After-out_mut) c.redeem.new.self c.redeem.new.end c.redeem.ensures.stays c.redeem.ensures.ins c.redeem.ensures.seat c.redeem.ensures.sound

pub returns-clause-does : goal.returns-clause-does
returns-clause-does g c =
    let lent = lends g (goal.at.returns-clause-does g c).After-out_mut in
    so_of_view lent c.redeem.new.self c.redeem.new.end (λ old. RedeemsOn g.J.Task.meaning c.args.ticket old c.redeem.result) (record {
      redeems = c.redeem.ensures.redeems;
      fits = out_fits (as_out lent) c.redeem.result (λ out. FitsSent (Fits g.J.Task.meaning) out c.args.ticket.number) c.redeem.ensures.fits;
      refused = linked_stays c.redeem.result c.redeem.ensures.untouched c.redeem.ensures.out c.self.inside.recorded c.redeem.new.self (as_out lent) c.redeem.ensures.rest c.redeem.ensures.stays (redeem_leaves _ _ _ _ c.redeem.ensures.redeems);
      uses = out_uses (as_out lent) c.redeem.new.end;
      rest = c.redeem.ensures.rest;
      stays = out_stays lent c.redeem.new.self c.redeem.new.end c.redeem.ensures.seat c.redeem.ensures.untouched (omega (arith, ap (λ out. length out.seen) c.redeem.ensures.out)) (redeems_add _ _ _ _ c.redeem.ensures.redeems);
    })
