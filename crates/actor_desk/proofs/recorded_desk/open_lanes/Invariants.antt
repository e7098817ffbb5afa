use Rattle.actor_desk.proofs.Names.{◌≡◌, replicate, vec_capacity, fresh_lane}
use Rattle.actor_desk.proofs.recorded_desk.open_lanes.Given as goal

-- a lane for each step of the loop, and room for all
abbrev pub invariant-loop : goal.invariant-loop
invariant-loop g l = record {
  lanes : l.lanes.items ≡ replicate l.counter (fresh_lane l.cap);
  capacity : vec_capacity l.lanes ≡ l.cores;
}
