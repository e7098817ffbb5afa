use Rattle.std.proofs.Common.{inr, refl, sym, subst, arith}
use Rattle.std.specs.Prelude.{Err}
use Rattle.base_words.specs.declared.names.TicketError.TheVariants.{Unknown}
use Rattle.host_core.specs.declared.answers.Refusal.TheVariants as refusal
use Rattle.host_house.specs.Outside.{CallerView, HasRoom, Redeems, StaysOutside}
use Rattle.host_house.proofs.Kept.{holds_after, stays_after, stays_same}
use Rattle.host_house.proofs.outside.Outside.redeem.Goals as goal

pub returns-then-not-knows-clause-redeems : goal.returns-then-not-knows-clause-redeems
returns-then-not-knows-clause-redeems c =
    subst (λ (old : CallerView). Redeems c.args.ticket old (Err refusal.Unknown) old) c.self.view_is (inr (
      subst (HasRoom 1) (sym c.self.view_is) (c.has_room.ensures.0 c.if-not-has_room.false),
      record { answer = Err Unknown; redeems = (c.knows.ensures.unknown c.if-not-knows.true, refl); fits = tt; refused = refl; told_is = refl },
    ))

pub returns-then-not-knows-clause-stays : goal.returns-then-not-knows-clause-stays
returns-then-not-knows-clause-stays c = stays_same c.args.self.now

pub redeem-requires-clause-there : goal.redeem-requires-clause-there
redeem-requires-clause-there c = (c.knows.ensures.knows.0 c.if-not-knows.false).1

pub redeem-requires-clause-room : goal.redeem-requires-clause-room
redeem-requires-clause-room c held =
    let room = subst (HasRoom 1) (sym c.self.view_is) (c.has_room.ensures.0 c.if-not-has_room.false) in
    omega (arith, room)

pub invariant_of-self : goal.invariant_of-self
invariant_of-self c = holds_after c.redeem.ensures.uses c.self.invariant.0 c.self.invariant.1

pub returns-clause-stays : goal.returns-clause-stays
returns-clause-stays c = subst (λ (old : CallerView). StaysOutside old c.redeem.new.self) c.self.view_is (stays_after c.redeem.ensures.uses)

pub returns-clause-redeems : goal.returns-clause-redeems
returns-clause-redeems c =
    subst (λ (old : CallerView). Redeems c.args.ticket old c.told_redeemed.result c.redeem.new.self) c.self.view_is (inr (
      subst (HasRoom 1) (sym c.self.view_is) (c.has_room.ensures.0 c.if-not-has_room.false),
      record { answer = c.redeem.result; redeems = c.redeem.ensures.redeems; fits = c.redeem.ensures.fits; refused = c.redeem.ensures.refused; told_is = c.told_redeemed.ensures },
    ))
