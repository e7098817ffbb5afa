use Rattle.std.proofs.Common.{inr, refl, sym, subst, arith}
use Rattle.std.specs.Prelude.{Err}
use Rattle.base_words.specs.declared.names.TicketError.TheVariants.{Unknown}
use Rattle.host_core.specs.declared.answers.Refusal.TheVariants as refusal
use Rattle.host_house.specs.Outside.{CallerView, HasRoom, Detaches, StaysOutside}
use Rattle.host_house.proofs.Kept.{holds_after, stays_after, stays_same}
use Rattle.host_house.proofs.outside.Outside.detach.Goals as goal

pub returns-then-not-knows-clause-detaches : goal.returns-then-not-knows-clause-detaches
returns-then-not-knows-clause-detaches c =
    subst (λ (old : CallerView). Detaches c.args.ticket old (Err refusal.Unknown) old) c.self.view_is (inr (
      subst (HasRoom 1) (sym c.self.view_is) (c.has_room.ensures.0 c.if-not-has_room.false),
      record { answer = Err Unknown; detaches = (c.knows.ensures.unknown c.if-not-knows.true, refl); refused = refl; told_is = refl },
    ))

pub returns-then-not-knows-clause-stays : goal.returns-then-not-knows-clause-stays
returns-then-not-knows-clause-stays c = stays_same c.args.self.now

pub detach-requires-clause-there : goal.detach-requires-clause-there
detach-requires-clause-there c = (c.knows.ensures.knows.0 c.if-not-knows.false).1

pub detach-requires-clause-room : goal.detach-requires-clause-room
detach-requires-clause-room c held =
    let room = subst (HasRoom 1) (sym c.self.view_is) (c.has_room.ensures.0 c.if-not-has_room.false) in
    omega (arith, room)

pub invariant_of-self : goal.invariant_of-self
invariant_of-self c = holds_after c.detach.ensures.uses c.self.invariant.0 c.self.invariant.1

pub returns-clause-stays : goal.returns-clause-stays
returns-clause-stays c = subst (λ (old : CallerView). StaysOutside old c.detach.new.self) c.self.view_is (stays_after c.detach.ensures.uses)

pub returns-clause-detaches : goal.returns-clause-detaches
returns-clause-detaches c =
    subst (λ (old : CallerView). Detaches c.args.ticket old c.told_detached.result c.detach.new.self) c.self.view_is (inr (
      subst (HasRoom 1) (sym c.self.view_is) (c.has_room.ensures.0 c.if-not-has_room.false),
      record { answer = c.detach.result; detaches = c.detach.ensures.detaches; refused = c.detach.ensures.refused; told_is = c.told_detached.ensures },
    ))
