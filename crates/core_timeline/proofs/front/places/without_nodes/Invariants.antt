use Rattle.std.proofs.Common.{◌≡◌, length, vec_capacity}
use Rattle.core_timeline.proofs.FrontCompact.{AreFree}
use Rattle.core_timeline.proofs.front.places.without_nodes.Given as goal

-- a free place for each step of the loop, and room for all
abbrev pub invariant-loop : goal.invariant-loop
invariant-loop g l = record {
  count : length l.nodes.items ≡ l.counter;
  free : AreFree l.nodes.items l.counter;
  capacity : vec_capacity l.nodes ≡ 64;
}
