use Rattle.std.proofs.Common.{◌≤◌, length, vec_capacity}
use Rattle.std.specs.Vec.Iter.{into_iter_items, into_iter_len}
use Rattle.run_team.proofs.Lists.{IsMade}
use Rattle.judge_replay.specs.Houses.{IsFresh}
use Rattle.judge_replay.proofs.house.unread.Given as goal

abbrev pub invariant-loop-hosted : goal.invariant-loop-hosted
invariant-loop-hosted l = record {
  reserved : length l.fn.cores.items ≤ vec_capacity l.made;
  made : IsMade IsFresh l.fn.cores.items (into_iter_items l.hosted-iterator) (into_iter_len l.hosted-iterator) l.made.items;
}
