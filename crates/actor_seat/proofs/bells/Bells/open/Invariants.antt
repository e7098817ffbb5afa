use Rattle.actor_seat.proofs.Names.{AreInPlace, length, map, replicate, ◌+◌, ◌≡◌}
use Rattle.actor_seat.proofs.bells.Bells.open.Given as goal

abbrev pub invariant-loop-actor : goal.invariant-loop-actor
invariant-loop-actor l = record {
  count : length l.bells.items ≡ l.actor;
  capacity : l.bells.cap ≡ l.cores + 1 + 8;
  end : l.actor-end ≡ l.cores + 1;
  unrung : map (λ bell. bell.rings) l.bells.items ≡ replicate l.actor 0;
  in_place : AreInPlace l.bells.items;
}
