use Rattle.std.proofs.Common.{◌≡◌, vec_capacity}
use Rattle.std.specs.Vec.Iter.{into_iter_items, into_iter_len}
use Rattle.run_team.proofs.Lists.{IsMade}
use Rattle.run_runtime.specs.Finishing.{IsPart}
use Rattle.run_runtime.proofs.finishing.part_all.Given as goal

abbrev pub invariant-loop-one : goal.invariant-loop-one
invariant-loop-one g l = record {
  room_ends : vec_capacity l.all_ends ≡ vec_capacity l.fn.ends;
  room_actors : vec_capacity l.all_actors ≡ vec_capacity l.fn.actors;
  ends : IsMade (λ worker ends. ends ≡ worker.linked.ends) l.fn.all.items (into_iter_items l.one-iterator) (into_iter_len l.one-iterator) l.all_ends.items;
  room_locals : vec_capacity l.all_locals ≡ vec_capacity l.fn.locals;
  locals : IsMade (λ worker local. Unit {0}) l.fn.all.items (into_iter_items l.one-iterator) (into_iter_len l.one-iterator) l.all_locals.items;
  actors : IsMade (IsPart g.J.Task.meaning g.S.Sink.has g.S.Sink.refused) l.fn.all.items (into_iter_items l.one-iterator) (into_iter_len l.one-iterator) l.all_actors.items;
}
