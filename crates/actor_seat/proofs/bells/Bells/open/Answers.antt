use Rattle.actor_seat.proofs.Names.{ap, AreInPlace, arith, BellView, IsNamedFor, length, map, subst, sym, [], ◌+◌, ◌∙◌, ◌∷◌, ◌≡◌, ◌≤◌}
use Rattle.std.proofs.Common.{length-append}
use Rattle.actor_seat.proofs.Rung.{names_apart, one_more_in_place, one_more_unrung}
use Rattle.actor_seat.proofs.bells.Bells.open.Goals as goal

pub loop-actor-preserved : goal.loop-actor-preserved
loop-actor-preserved c =
    let its_own : IsNamedFor (length c.loop-actor.bells.items) c.in_ok-bell.bell = subst (λ actor. IsNamedFor actor c.in_ok-bell.bell) (sym c.loop-actor.invariant.count) c.in_ok-bell.ensures.1 in
    let longer : length c.push_reserved.new.self.items ≡ length c.loop-actor.bells.items + length (c.in_ok-bell.bell ∷ []) = ap length c.push_reserved.ensures.items ∙ length-append c.loop-actor.bells.items (c.in_ok-bell.bell ∷ []) in
    record {
      count = omega (arith, longer, c.loop-actor.invariant.count);
      capacity = c.push_reserved.ensures.capacity ∙ c.loop-actor.invariant.capacity;
      end = c.loop-actor.invariant.end;
      unrung = ap (map (λ (bell : BellView). bell.rings)) c.push_reserved.ensures.items ∙ one_more_unrung c.loop-actor.bells.items c.in_ok-bell.bell c.loop-actor.actor c.loop-actor.invariant.unrung c.in_ok-bell.ensures.0;
      in_place = subst AreInPlace (sym c.push_reserved.ensures.items) (one_more_in_place c.loop-actor.bells.items c.in_ok-bell.bell c.loop-actor.invariant.in_place its_own);
    }

pub returns-clause-apart : goal.returns-clause-apart
returns-clause-apart c =
    let few : length c.loop-actor.bells.items ≤ 256 = omega (arith, c.loop-actor.invariant.count, c.loop-actor.invariant.end, c.loop-actor.auto, c.ranges.cores.fits) in
    names_apart c.loop-actor.bells.items few c.loop-actor.invariant.in_place
