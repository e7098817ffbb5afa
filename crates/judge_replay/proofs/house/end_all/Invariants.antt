use Rattle.std.proofs.Common.{◌≤◌, length, vec_capacity}
use Rattle.std.specs.Vec.Iter.{into_iter_items, into_iter_len}
use Rattle.run_team.proofs.Lists.{IsMade}
use Rattle.judge_replay.specs.Houses.{IsEndOf}
use Rattle.judge_replay.proofs.house.end_all.Given as goal

abbrev pub invariant-loop-core : goal.invariant-loop-core
invariant-loop-core l = record {
  reserved : length l.fn.cores.items ≤ vec_capacity l.all;
  made : IsMade (IsEndOf l.whole) l.fn.cores.items (into_iter_items l.core-iterator) (into_iter_len l.core-iterator) l.all.items;
}
