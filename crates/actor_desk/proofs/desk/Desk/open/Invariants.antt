use Rattle.std.proofs.Common.{◌≡◌}
use Rattle.std.specs.Prelude.{replicate}
use Rattle.std.specs.Vec.{vec_capacity}
use Rattle.actor_desk.specs.Lanes.{fresh_lane}
use Rattle.actor_desk.proofs.desk.Desk.open.Given as goal

-- a lane for each step of the loop, and room for all
abbrev pub invariant-loop : goal.invariant-loop
invariant-loop g l = record {
  lanes : l.lanes.items ≡ replicate l.counter (fresh_lane l.cap);
  capacity : vec_capacity l.lanes ≡ l.cores;
}
