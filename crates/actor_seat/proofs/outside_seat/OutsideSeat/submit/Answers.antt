use Rattle.actor_seat.proofs.Names.{ap, arith, IfOk, length, numbered, refl, Sends, Spends, Submits, subst, sym, ◌<◌, ◌≡◌}
use Rattle.actor_seat.proofs.Adding.{submits_add}
use Rattle.actor_seat.proofs.OutsideSeats.{LendsAt, lent_beside, lent_lane, seated_now, there_too, uses_now}
use Rattle.actor_seat.proofs.outside_seat.OutsideSeat.submit.Given.{Over}
use Rattle.actor_seat.proofs.outside_seat.OutsideSeat.submit.Goals as goal
use Rattle.actor_seat.proofs.outside_seat.OutsideSeat.submit.Goals.{After-out_mut}

pub out_mut-requires : goal.out_mut-requires
out_mut-requires g c = omega (arith, c.requires.there, ap (λ view. view.desk.cores) c.self.view_is, c.self.invariant.outside.outs_are)

-- the end to the core, as it is lent
lends : (g : Over) (c : After-out_mut g) → LendsAt g.J.Task.meaning c.args.self.now c.self.inside.desk c.self.inside.ends c.args.to c.args.to c.out_mut.result.now
lends g c = record { seated = c.self.invariant; is = c.self.view_is; known = c.requires.there; here = refl; lent = c.out_mut.ensures.value }

pub submit-requires : goal.submit-requires
submit-requires g c =
    let lent = lends g (goal.at.submit-requires g c).After-out_mut in
    record { beside = lent_beside lent; lane = lent_lane lent; room = subst (λ view. length view.desk.journal.notes < view.desk.journal.room) (sym c.self.view_is) c.requires.room; ready = c.requires.ready }

pub invariant_of-self : goal.invariant_of-self
invariant_of-self g c = seated_now (lends g (goal.at.invariant_of-self g c).After-out_mut) c.submit.new.end c.submit.ensures.stays

pub returns-clause-submits : goal.returns-clause-submits
returns-clause-submits g c = subst (λ view. Submits c.args.to c.args.order view.desk c.submit.result c.submit.new.self) c.self.view_is c.submit.ensures.submits

pub returns-clause-spends : goal.returns-clause-spends
returns-clause-spends g c = subst (λ view. IfOk c.submit.result (λ _. Spends c.args.to 3 view.desk c.submit.new.self)) c.self.view_is c.submit.ensures.spends

pub returns-clause-sends : goal.returns-clause-sends
returns-clause-sends g c = there_too (lends g (goal.at.returns-clause-sends g c).After-out_mut) c.submit.new.end (λ was now. Sends was.out was.credited c.args.order now.out (numbered c.submit.result)) c.submit.ensures.sends

pub returns-clause-credited : goal.returns-clause-credited
returns-clause-credited g c = there_too (lends g (goal.at.returns-clause-credited g c).After-out_mut) c.submit.new.end (λ was now. now.credited ≡ was.credited) c.submit.ensures.credited

pub returns-clause-uses : goal.returns-clause-uses
returns-clause-uses g c = uses_now (lends g (goal.at.returns-clause-uses g c).After-out_mut) c.submit.new.end c.submit.ensures.stays c.submit.ensures.untouched (submits_add _ _ _ _ _ c.submit.ensures.submits).grows
