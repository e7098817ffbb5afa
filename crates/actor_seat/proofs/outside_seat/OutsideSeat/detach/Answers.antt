use Rattle.actor_seat.proofs.Names.{ap, arith, DetachesTicket, HoldsSome, IfOk, length, Spends, subst, sym, ◌<◌, ◌≡◌}
use Rattle.actor_seat.proofs.Adding.{detaches_add}
use Rattle.actor_seat.proofs.OutsideSeats.{LendsAt, lent_beside, lent_lane, seated_now, there_too, uses_now}
use Rattle.actor_seat.proofs.Untouched.{detach_leaves, outside_stays}
use Rattle.actor_seat.proofs.outside_seat.OutsideSeat.detach.Given.{Over}
use Rattle.actor_seat.proofs.outside_seat.OutsideSeat.detach.Goals as goal
use Rattle.actor_seat.proofs.outside_seat.OutsideSeat.detach.Goals.{After-out_mut}

pub out_mut-requires : goal.out_mut-requires
out_mut-requires g c = omega (arith, c.requires.there, ap (λ view. view.desk.cores) c.self.view_is, c.self.invariant.outside.outs_are, ap (λ name. name.to) c.name-to.ensures)

-- the end to the core of the ticket, as it is lent
lends : (g : Over) (c : After-out_mut g) → LendsAt g.J.Task.meaning c.args.self.now c.self.inside.desk c.self.inside.ends c.args.ticket.to c.name-to.result.to c.out_mut.result.now
lends g c = record { seated = c.self.invariant; is = c.self.view_is; known = c.requires.there; here = ap (λ name. name.to) c.name-to.ensures; lent = c.out_mut.ensures.value }

pub detach-requires : goal.detach-requires
detach-requires g c =
    let lent = lends g (goal.at.detach-requires g c).After-out_mut in
    record { beside = lent_beside lent; lane = lent_lane lent; room = subst (λ view. HoldsSome c.args.ticket view.desk → length view.desk.journal.notes < view.desk.journal.room) (sym c.self.view_is) c.requires.room }

pub invariant_of-self : goal.invariant_of-self
invariant_of-self g c = seated_now (lends g (goal.at.invariant_of-self g c).After-out_mut) c.detach.new.end c.detach.ensures.stays

pub returns-clause-detaches : goal.returns-clause-detaches
returns-clause-detaches g c = subst (λ view. DetachesTicket c.args.ticket view.desk c.detach.result c.detach.new.self) c.self.view_is c.detach.ensures.detaches

pub returns-clause-spends : goal.returns-clause-spends
returns-clause-spends g c = subst (λ view. IfOk c.detach.result (λ _. Spends c.args.ticket.to 0 view.desk c.detach.new.self)) c.self.view_is c.detach.ensures.spends

pub returns-clause-out : goal.returns-clause-out
returns-clause-out g c = there_too (lends g (goal.at.returns-clause-out g c).After-out_mut) c.detach.new.end (λ was now. now.out ≡ was.out) c.detach.ensures.out

pub returns-clause-refused : goal.returns-clause-refused
returns-clause-refused g c = outside_stays c.detach.result c.detach.ensures.untouched c.detach.ensures.out (lends g (goal.at.returns-clause-refused g c).After-out_mut) c.detach.ensures.stays (detach_leaves _ _ _ _ c.detach.ensures.detaches)

pub returns-clause-uses : goal.returns-clause-uses
returns-clause-uses g c = uses_now (lends g (goal.at.returns-clause-uses g c).After-out_mut) c.detach.new.end c.detach.ensures.stays c.detach.ensures.untouched (detaches_add _ _ _ _ c.detach.ensures.detaches).grows
