use Rattle.std.proofs.Common.{◌≡◌, ◌≤◌, length, vec_capacity}
use Rattle.std.specs.Vec.Iter.{into_iter_items, into_iter_len}
use Rattle.run_team.proofs.Lists.{IsMade}
use Rattle.run_runtime.proofs.finishing.whole_assembly.Given as goal

abbrev pub invariant-loop-actor : goal.invariant-loop-actor
invariant-loop-actor l = record {
  reserved : length l.fn.passed.actors.items ≤ vec_capacity l.all;
  made : IsMade (λ actor journal. journal.notes ≡ actor.kept.notes) l.fn.passed.actors.items (into_iter_items l.actor-iterator) (into_iter_len l.actor-iterator) l.all.items;
}
