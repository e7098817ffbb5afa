use Rattle.std.proofs.Common.{◌≡◌, vec_capacity}
use Rattle.std.specs.Vec.Iter.{into_iter_items, into_iter_len}
use Rattle.run_team.specs.Seats.{IsSeatOf}
use Rattle.run_team.proofs.Lists.{IsMade}
use Rattle.run_team.proofs.team.seat_all.Given as goal

abbrev pub invariant-loop-worker : goal.invariant-loop-worker
invariant-loop-worker g l =
    (vec_capacity l.seats ≡ vec_capacity l.fn.seats)
    × IsMade (IsSeatOf g.W.Promised.keeps) l.fn.workers.items (into_iter_items l.worker-iterator) (into_iter_len l.worker-iterator) l.seats.items
