use Rattle.std.proofs.Common.{◌<◌, Some, refl, sym, ap, subst, ◌∙◌, arith}
use Rattle.actor_desk.specs.Held.{count_of, Adds}
use Rattle.actor_desk.specs.Rolls.{held, IsAbove, IsRising, IsEnded}
use Rattle.actor_desk.specs.declared.roll.Line.{Line}
use Rattle.actor_desk.proofs.RollEnds.{all-below, rising-push, ended-push, Adds-push}
use Rattle.actor_desk.proofs.roll.Roll.add.Goals as goal

pub make_room-requires-clause-room : goal.make_room-requires-clause-room
make_room-requires-clause-room g c =
    let low : count_of (held c.self.inside.lines.items) < c.self.inside.room = subst (λ e. count_of e.entries < e.room) (sym c.self.view_is) c.requires.room in
    omega (arith, c.self.invariant.2)

pub invariant_of-self : goal.invariant_of-self
invariant_of-self g c =
    let above = subst (λ e. IsAbove e c.args.number) (ap (λ e. e.entries) (sym c.self.view_is) ∙ sym c.make_room.ensures.held) c.requires.above in
    let below = all-below c.make_room.new.lines.items c.make_room.ensures.rising c.make_room.ensures.ended c.args.number above in
    let line : Line g.row.V.Denot = record { number = c.args.number; value = Some c.args.value } in (
      subst IsRising (sym c.push_reserved.ensures.items) (rising-push c.make_room.new.lines.items c.make_room.ensures.rising line below),
      subst IsEnded (sym c.push_reserved.ensures.items) (ended-push c.make_room.new.lines.items c.args.number c.args.value),
      omega (arith, c.push_reserved.ensures.capacity, c.make_room.ensures.capacity, c.self.invariant.2),
    )

pub returns-clause-adds : goal.returns-clause-adds
returns-clause-adds g c =
    let above = subst (λ e. IsAbove e c.args.number) (ap (λ e. e.entries) (sym c.self.view_is) ∙ sym c.make_room.ensures.held) c.requires.above in
    let below = all-below c.make_room.new.lines.items c.make_room.ensures.rising c.make_room.ensures.ended c.args.number above in
    let adds = Adds-push c.make_room.new.lines.items c.make_room.ensures.rising (record { number = c.args.number; value = Some c.args.value }) below c.args.value refl in
    subst (λ e. Adds e (held c.push_reserved.new.self.items) c.args.number c.args.value) (c.make_room.ensures.held ∙ ap (λ e. e.entries) c.self.view_is)
    (subst (λ items. Adds (held c.make_room.new.lines.items) (held items) c.args.number c.args.value) (sym c.push_reserved.ensures.items) adds)
