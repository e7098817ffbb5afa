use Rattle.std.proofs.Common.{◌≤◌, length, vec_capacity}
use Rattle.std.specs.Vec.Iter.{into_iter_items, into_iter_len}
use Rattle.run_team.proofs.Lists.{IsMade}
use Rattle.actor_seat.specs.Opening.{IsOpenedOver}
use Rattle.host_house.proofs.house.open_cores.Given as goal

abbrev pub invariant-loop-ends : goal.invariant-loop-ends
invariant-loop-ends l = record {
  reserved : length l.fn.all.items ≤ vec_capacity l.opened;
  made : IsMade (IsOpenedOver l.cores l.cap l.burst l.room) l.fn.all.items (into_iter_items l.ends-iterator) (into_iter_len l.ends-iterator) l.opened.items;
}
