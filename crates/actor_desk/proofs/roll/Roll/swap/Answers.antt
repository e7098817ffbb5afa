use Rattle.std.proofs.Common.{Some, refl, subst}
use Rattle.actor_desk.specs.Rolls.{IsHeldAt}
use Rattle.actor_desk.proofs.Rolls.{rising-set, ended-set, Becomes-set}
use Rattle.actor_desk.proofs.roll.Roll.swap.Goals as goal

pub invariant_of-self : goal.invariant_of-self
invariant_of-self g c =
    let i = c.self.inside in
    let is = subst (λ lines. IsHeldAt lines c.in_ok-place.place c.args.number c.in_ok-place.before) c.deref.ensures.value c.in_ok-place.ensures.found in (
      rising-set i.lines.items c.self.invariant.0 c.in_ok-place.place _ (record { number = c.args.number; value = Some c.args.value }) is refl,
      ended-set i.lines.items c.in_ok-place.place c.args.number c.args.value c.self.invariant.1,
      c.self.invariant.2,
    )

pub returns-clause-becomes : goal.returns-clause-becomes
returns-clause-becomes g c =
    let is = subst (λ lines. IsHeldAt lines c.in_ok-place.place c.args.number c.in_ok-place.before) c.deref.ensures.value c.in_ok-place.ensures.found in
    rw (← c.self.view_is) (Becomes-set _ c.self.invariant.0 c.in_ok-place.place c.args.number c.in_ok-place.before is c.args.value)
