use Rattle.std.proofs.Common.{◌≤◌, length, vec_capacity}
use Rattle.std.specs.Vec.Iter.{into_iter_items, into_iter_len}
use Rattle.run_team.proofs.Lists.{IsMade}
use Rattle.run_runtime.specs.Starting.{IsOpenedWith, IsWatcherOf, IsWiredWith}
use Rattle.run_team.specs.Works.{Together}
use Rattle.run_runtime.proofs.starting.open_seats.Given as goal

abbrev pub invariant-loop-seat : goal.invariant-loop-seat
invariant-loop-seat g l = record {
  reserved : length l.fn.seats.items ≤ vec_capacity l.workers;
  room : length l.fn.seats.items ≤ vec_capacity l.watchers;
  watched : Together IsWatcherOf l.workers.items l.watchers.items;
  made : IsMade (λ seat worker. IsWiredWith (IsOpenedWith l.config.cores l.config.cap l.config.burst l.config.room l.config.queues.items seat.ends) seat.clock seat.gate seat.sink l.bells.names worker) l.fn.seats.items (into_iter_items l.seat-iterator) (into_iter_len l.seat-iterator) l.workers.items;
}
