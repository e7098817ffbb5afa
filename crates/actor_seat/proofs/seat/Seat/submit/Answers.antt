use Rattle.actor_seat.proofs.Names.{ap, arith, length, numbered, refl, SubmitsOn, subst, sym, ◌<◌}
use Rattle.actor_seat.proofs.Adding.{submits_add}
use Rattle.actor_seat.proofs.LentOut.{LendsOn, as_out, out_beside, out_lane, out_seated, out_sends, out_stays, out_uses, seated_here, sends_seen, so_of_view}
use Rattle.actor_seat.proofs.LinkedCalls.{submitted_linked}
use Rattle.actor_seat.proofs.seat.Seat.submit.Given.{Over}
use Rattle.actor_seat.proofs.seat.Seat.submit.Goals as goal
use Rattle.actor_seat.proofs.seat.Seat.submit.Goals.{After-out_mut}

-- the end to the core, as it is lent
lends : (g : Over) (c : After-out_mut g) → LendsOn g.J.Task.meaning c.args.self.now c.self.inside.recorded c.self.inside.ends c.args.to c.args.to c.out_mut.result.now
lends g c = record { seated = c.self.invariant; is = c.self.view_is; known = omega (arith, c.requires.known, ap (λ view. view.recorded.core.cores) c.self.view_is); here = refl; lent = c.out_mut.ensures.value }

pub out_mut-requires : goal.out_mut-requires
out_mut-requires g c = omega (arith, c.self.invariant.beside.outs.count, c.requires.known, ap (λ view. view.recorded.core.cores) c.self.view_is)

pub submit-requires : goal.submit-requires
submit-requires g c =
    let lent = lends g (goal.at.submit-requires g c).After-out_mut in
    record { beside = out_beside (as_out lent); lane = out_lane (as_out lent); room = subst (λ view. length view.recorded.journal.notes < view.recorded.journal.room) (sym c.self.view_is) c.requires.room; ready = c.requires.ready }

pub invariant_of-self : goal.invariant_of-self
invariant_of-self g c = out_seated (lends g (goal.at.invariant_of-self g c).After-out_mut) c.submit.new.self c.submit.new.end c.submit.ensures.stays c.submit.ensures.ins c.submit.ensures.seat c.submit.ensures.sound

pub returns-clause-seated : goal.returns-clause-seated
returns-clause-seated g c = out_seated (lends g (goal.at.returns-clause-seated g c).After-out_mut) c.submit.new.self c.submit.new.end c.submit.ensures.stays c.submit.ensures.ins c.submit.ensures.seat c.submit.ensures.sound

pub returns-clause-does : goal.returns-clause-does
returns-clause-does g c =
    let lent = lends g (goal.at.returns-clause-does g c).After-out_mut in
    so_of_view lent c.submit.new.self c.submit.new.end (λ old. SubmitsOn c.args.to c.args.order old c.submit.result) (record {
      submits = c.submit.ensures.submits;
      sends = out_sends (as_out lent) c.submit.new.end c.args.order (numbered c.submit.result) c.submit.ensures.sends;
      uses = out_uses (as_out lent) c.submit.new.end;
      rest = c.submit.ensures.rest;
      stays = out_stays lent c.submit.new.self c.submit.new.end c.submit.ensures.seat c.submit.ensures.untouched (omega (arith, ap length (sends_seen _ _ _ _ _ c.submit.ensures.sends))) (submits_add _ _ _ _ _ c.submit.ensures.submits);
    })

pub returns-clause-linked : goal.returns-clause-linked
returns-clause-linked g c =
    let lent = lends g (goal.at.returns-clause-linked g c).After-out_mut in
    submitted_linked lent c.submit.new.self c.submit.new.end c.submit.ensures.rest (seated_here lent c.submit.new.self c.submit.new.end c.submit.ensures.stays c.submit.ensures.ins c.submit.ensures.seat c.submit.ensures.sound)
    c.args.order c.submit.result c.submit.ensures.sends c.submit.ensures.submits
