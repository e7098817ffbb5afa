use Rattle.std.proofs.Common.{inr, sym, subst, arith}
use Rattle.host_core.specs.Submissions.{order_of_host}
use Rattle.host_house.specs.Outside.{CallerView, HasRoom, Posts, StaysOutside, SubmitsTo}
use Rattle.host_house.proofs.Kept.{holds_after, stays_after}
use Rattle.host_house.proofs.outside.Outside.submit.Goals as goal

pub invariant_of-self : goal.invariant_of-self
invariant_of-self c = holds_after c.submit.ensures.uses c.self.invariant.0 c.self.invariant.1

pub returns-clause-stays : goal.returns-clause-stays
returns-clause-stays c = subst (λ (old : CallerView). StaysOutside old c.submit.new.self) c.self.view_is (stays_after c.submit.ensures.uses)

pub returns-clause-posts : goal.returns-clause-posts
returns-clause-posts c =
    let did = c.submit.ensures in
    let submits : SubmitsTo c.args.to c.host_order-order.result c.self.inside.seat c.told_sent.result c.submit.new.self =
    record { answer = c.submit.result; submits = did.submits; sends = did.sends; credited = did.credited; told_is = c.told_sent.ensures; uses = did.uses.uses } in
    subst (λ (old : CallerView). Posts c.args.to (order_of_host c.args.order) old c.told_sent.result c.submit.new.self) c.self.view_is (inr (inr (
      omega (arith, c.self.invariant.0, c.if-to-self.false),
      subst (HasRoom 1) (sym c.self.view_is) (c.has_room.ensures.0 c.if-not-has_room.false),
      subst (λ order. SubmitsTo c.args.to order c.self.inside.seat c.told_sent.result c.submit.new.self) c.host_order-order.ensures.same submits,
    )))
