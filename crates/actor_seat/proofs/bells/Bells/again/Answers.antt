use Rattle.actor_seat.proofs.Names.{arith, length, ◌<◌}
use Rattle.actor_seat.proofs.Rung.{one_more_again}
use Rattle.actor_seat.proofs.bells.Bells.again.Goals as goal

pub loop-place-preserved : goal.loop-place-preserved
loop-place-preserved c =
    let low : c.loop-place.place < length c.self.inside.bells.items = omega (arith, c.loop-place-test.true, c.len-place-end.ensures) in
    let more =
    one_more_again c.self.inside.bells.items c.loop-place.bells.items c.push_reserved.new.self.items c.loop-place.place c.index.result.now c.in_ok-bell.bell c.self.invariant low c.index.ensures c.in_ok-bell.ensures c.push_reserved.ensures.items
    c.loop-place.invariant.count c.loop-place.invariant.unrung c.loop-place.invariant.named c.loop-place.invariant.in_place in
    record {
      count = more.0;
      enough = omega (arith, c.push_reserved.ensures.capacity, c.loop-place.invariant.enough);
      unrung = more.1;
      named = more.2;
      in_place = more.3;
    }
