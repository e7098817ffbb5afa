use Rattle.std.proofs.Common.{◌<◌, sym, subst, arith}
use Rattle.actor_seat.proofs.OutsideSeats.{room_for_link}
use Rattle.host_house.specs.Outside.{CallerView, CollectsOne, HasRoom, StaysOutside}
use Rattle.host_house.proofs.Kept.{holds_after, stays_after}
use Rattle.host_house.proofs.outside.Outside.collect_one.Goals as goal

pub collect_one-requires : goal.collect_one-requires
collect_one-requires c =
    let known : c.args.core < c.self.inside.seat.desk.cores = omega (arith, c.self.invariant.0, c.if-core-self.false) in
    let room = subst (λ count. HasRoom count c.self.inside.seat) c.cap.ensures.cap (subst (HasRoom c.cap.result) (sym c.self.view_is) (c.has_room.ensures.0 c.if-not-has_room.false)) in
    record { there = known; room = room_for_link _ c.cap.ensures.seated c.args.core known room }

pub invariant_of-self : goal.invariant_of-self
invariant_of-self c = holds_after c.collect_one.ensures.uses c.self.invariant.0 c.self.invariant.1

pub returns-clause-stays : goal.returns-clause-stays
returns-clause-stays c = subst (λ (old : CallerView). StaysOutside old c.collect_one.new.self) c.self.view_is (stays_after c.collect_one.ensures.uses)

pub returns-clause-collects : goal.returns-clause-collects
returns-clause-collects c =
    let did = c.collect_one.ensures in
    subst (λ (old : CallerView). CollectsOne c.args.core old c.collect_one.result c.collect_one.new.self) c.self.view_is (record { gets = did.gets; uses = did.uses.uses })
