use Rattle.std.proofs.Common.{◌≡◌, vec_capacity}
use Rattle.std.specs.Vec.Iter.{into_iter_items, into_iter_len}
use Rattle.run_team.specs.Seats.{Leaves}
use Rattle.run_team.proofs.Lists.{IsMade}
use Rattle.run_team.proofs.team.leave_all.Given as goal

abbrev pub invariant-loop-seat : goal.invariant-loop-seat
invariant-loop-seat g l =
    (vec_capacity l.lefts ≡ vec_capacity l.fn.lefts)
    × IsMade (Leaves g.W.Promised.keeps) l.fn.seats.items (into_iter_items l.seat-iterator) (into_iter_len l.seat-iterator) l.lefts.items
