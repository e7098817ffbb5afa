use Rattle.std.proofs.Common.{◌≡◌}
use Rattle.std.specs.Prelude.{replicate}
use Rattle.std.specs.Vec.{vec_capacity}
use Rattle.judge_sink.specs.Tables.{fresh_lane}
use Rattle.judge_sink.proofs.table.Table.open.Given as goal

-- a lane for each step of the loop, and room for all
abbrev pub invariant-loop : goal.invariant-loop
invariant-loop l = record {
  lanes : l.lanes.items ≡ replicate l.counter (fresh_lane l.cap);
  capacity : vec_capacity l.lanes ≡ l.cores;
}
