use Rattle.actor_seat.proofs.Names.{ap, arith, BellsView, rung_at, ◌∙◌}
use Rattle.actor_seat.proofs.Rung.{bell_view_rung, still_in_place}
use Rattle.actor_seat.proofs.bells.Bells.ring_actor.Goals as goal

pub returns-then-place-len : goal.returns-then-place-len
returns-then-place-len c =
    bell_view_rung c.self.inside.bells.items c.args.actor c.index_mut.result.now c.ring.new.self (omega (arith, c.if-place-len.true, c.len.ensures)) c.index_mut.ensures.value c.ring.ensures
    ∙ ap (λ (bells : BellsView). record bells { rings = rung_at c.args.actor bells.rings }) c.self.view_is

pub invariant_of-self : goal.invariant_of-self
invariant_of-self c =
    still_in_place c.self.inside.bells.items c.args.actor c.index_mut.result.now c.ring.new.self (omega (arith, c.if-place-len.true, c.len.ensures)) c.index_mut.ensures.value c.ring.ensures c.self.invariant
