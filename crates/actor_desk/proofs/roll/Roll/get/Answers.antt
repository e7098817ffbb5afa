use Rattle.std.proofs.Common.{sym, ap, subst, ◌∙◌}
use Rattle.actor_desk.specs.Held.{at}
use Rattle.actor_desk.specs.Rolls.{IsHeldAt}
use Rattle.actor_desk.proofs.Rolls.{at-held}
use Rattle.actor_desk.proofs.roll.Roll.get.Goals as goal

pub returns : goal.returns
returns g c =
    let is = subst (λ lines. IsHeldAt lines c.in_ok-_place._place c.args.number c.in_ok-_place.value) c.deref.ensures.value c.in_ok-_place.ensures.found in
    sym (at-held _ c.self.invariant.0 c.in_ok-_place._place _ is) ∙ ap (λ e. at e.entries c.args.number) c.self.view_is
