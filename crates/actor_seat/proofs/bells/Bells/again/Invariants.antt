use Rattle.actor_seat.proofs.Names.{AreInPlace, length, map, replicate, take, ◌≡◌, ◌≤◌}
use Rattle.actor_seat.proofs.bells.Bells.again.Given as goal

abbrev pub invariant-loop-place : goal.invariant-loop-place
invariant-loop-place l = record {
  count : length l.bells.items ≡ l.place;
  enough : length l.self-inside.bells.items ≤ l.bells.cap;
  unrung : map (λ bell. bell.rings) l.bells.items ≡ replicate l.place 0;
  named : map (λ bell. bell.name) l.bells.items ≡ take l.place (map (λ bell. bell.name) l.self-inside.bells.items);
  in_place : AreInPlace l.bells.items;
}
