use Rattle.std.proofs.Common.{None, refl, subst}
use Rattle.actor_desk.specs.Rolls.{IsHeldAt}
use Rattle.actor_desk.proofs.Rolls.{rising-set, Removes-set}
use Rattle.actor_desk.proofs.roll.Roll.remove.Goals as goal

pub trim-requires : goal.trim-requires
trim-requires g c =
    let is = subst (λ lines. IsHeldAt lines c.in_ok-place.place c.args.number c.in_ok-place.value) c.deref.ensures.value c.in_ok-place.ensures.found in
    rising-set _ c.self.invariant.0 c.in_ok-place.place _ (record { number = c.args.number; value = None }) is refl

pub returns-clause-removes : goal.returns-clause-removes
returns-clause-removes g c =
    let is = subst (λ lines. IsHeldAt lines c.in_ok-place.place c.args.number c.in_ok-place.value) c.deref.ensures.value c.in_ok-place.ensures.found in
    rw (← c.self.view_is, c.trim.ensures.held) (Removes-set _ c.self.invariant.0 c.in_ok-place.place c.args.number c.in_ok-place.value is)
