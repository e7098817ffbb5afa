use Rattle.model_world.proofs.Words.{◌∙◌, refl, arith}
use Rattle.model_world.proofs.Fresh.{world_at_opening, rest_at_opening, fresh_at_opening}
use Rattle.model_world.proofs.model.World.try_new_burst.Goals as goal

pub invariant_of-result : goal.invariant_of-result
invariant_of-result g c =
    let inside = rw (← c.of.ensures.items) at c.in_ok-inside.ensures in (
      c.if-not-is_config.ensures.0 refl,
      world_at_opening g.J.Task.meaning c.args.cores c.args.cap c.args.burst c.args.room _ _ _
          inside c.in_ok-outside.ensures.opened c.in_ok-outside.ensures.written c.in_ok-links.ensures,
      record { no_item = c.of-2.ensures.items ∙ c.in_ok-gathered.ensures.items; reserved = omega (arith, c.of-2.ensures.capacity, c.in_ok-gathered.ensures.capacity) },
      rest_at_opening g.J.Task.meaning c.args.cores c.args.cap c.args.burst c.args.room _ _ _
          inside c.in_ok-outside.ensures.opened c.in_ok-outside.ensures.written c.in_ok-links.ensures,
    )

pub returns : goal.returns
returns g c =
    let inside = rw (← c.of.ensures.items) at c.in_ok-inside.ensures in (
      c.if-not-is_config.ensures.0 refl,
      fresh_at_opening g.J.Task.meaning c.args.cores c.args.cap c.args.burst c.args.room _ _ _
          inside c.in_ok-outside.ensures.opened c.in_ok-outside.ensures.written c.in_ok-links.ensures,
    )
