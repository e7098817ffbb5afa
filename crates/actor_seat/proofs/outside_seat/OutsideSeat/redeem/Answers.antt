use Rattle.actor_seat.proofs.Names.{ap, arith, Fits, FitsSent, HoldsSome, IfOk, IsGot, length, RedeemsTicket, Spends, subst, sym, ◌<◌, ◌≡◌}
use Rattle.actor_seat.proofs.Adding.{redeems_add}
use Rattle.actor_seat.proofs.OutsideSeats.{LendsAt, lent_beside, lent_lane, seated_now, there_too, uses_now}
use Rattle.actor_seat.proofs.Untouched.{redeem_leaves, outside_stays}
use Rattle.actor_seat.proofs.outside_seat.OutsideSeat.redeem.Given.{Over}
use Rattle.actor_seat.proofs.outside_seat.OutsideSeat.redeem.Goals as goal
use Rattle.actor_seat.proofs.outside_seat.OutsideSeat.redeem.Goals.{After-out_mut}

pub out_mut-requires : goal.out_mut-requires
out_mut-requires g c = omega (arith, c.requires.there, ap (λ view. view.desk.cores) c.self.view_is, c.self.invariant.outside.outs_are, ap (λ name. name.to) c.name-to.ensures)

-- the end to the core of the ticket, as it is lent
lends : (g : Over) (c : After-out_mut g) → LendsAt g.J.Task.meaning c.args.self.now c.self.inside.desk c.self.inside.ends c.args.ticket.to c.name-to.result.to c.out_mut.result.now
lends g c = record { seated = c.self.invariant; is = c.self.view_is; known = c.requires.there; here = ap (λ name. name.to) c.name-to.ensures; lent = c.out_mut.ensures.value }

pub redeem-requires : goal.redeem-requires
redeem-requires g c =
    let lent = lends g (goal.at.redeem-requires g c).After-out_mut in
    record { beside = lent_beside lent; lane = lent_lane lent; room = subst (λ view. HoldsSome c.args.ticket view.desk → length view.desk.journal.notes < view.desk.journal.room) (sym c.self.view_is) c.requires.room }

pub invariant_of-self : goal.invariant_of-self
invariant_of-self g c = seated_now (lends g (goal.at.invariant_of-self g c).After-out_mut) c.redeem.new.end c.redeem.ensures.stays

pub returns-clause-redeems : goal.returns-clause-redeems
returns-clause-redeems g c = subst (λ view. RedeemsTicket c.args.ticket view.desk c.redeem.result c.redeem.new.self) c.self.view_is c.redeem.ensures.redeems

pub returns-clause-spends : goal.returns-clause-spends
returns-clause-spends g c = subst (λ view. IfOk c.redeem.result (λ _. Spends c.args.ticket.to 0 view.desk c.redeem.new.self)) c.self.view_is c.redeem.ensures.spends

pub returns-clause-given : goal.returns-clause-given
returns-clause-given g c = there_too (lends g (goal.at.returns-clause-given g c).After-out_mut) c.redeem.new.end (λ was now. IfOk c.redeem.result (IsGot was.out c.args.ticket.number)) c.redeem.ensures.given

pub returns-clause-fits : goal.returns-clause-fits
returns-clause-fits g c = there_too (lends g (goal.at.returns-clause-fits g c).After-out_mut) c.redeem.new.end (λ was now. IfOk c.redeem.result (FitsSent (Fits g.J.Task.meaning) was.out c.args.ticket.number)) c.redeem.ensures.fits

pub returns-clause-out : goal.returns-clause-out
returns-clause-out g c = there_too (lends g (goal.at.returns-clause-out g c).After-out_mut) c.redeem.new.end (λ was now. now.out ≡ was.out) c.redeem.ensures.out

pub returns-clause-refused : goal.returns-clause-refused
returns-clause-refused g c = outside_stays c.redeem.result c.redeem.ensures.untouched c.redeem.ensures.out (lends g (goal.at.returns-clause-refused g c).After-out_mut) c.redeem.ensures.stays (redeem_leaves _ _ _ _ c.redeem.ensures.redeems)

pub returns-clause-uses : goal.returns-clause-uses
returns-clause-uses g c = uses_now (lends g (goal.at.returns-clause-uses g c).After-out_mut) c.redeem.new.end c.redeem.ensures.stays c.redeem.ensures.untouched (redeems_add _ _ _ _ c.redeem.ensures.redeems).grows
