use Rattle.std.proofs.Common.{◌≡◌, length, arith}
use Rattle.run_team.specs.Seats.{IsSeatOf}
use Rattle.run_team.proofs.Lists.{together_length}
use Rattle.run_team.proofs.Accounts.{all_left}
use Rattle.run_team.proofs.team.Team.start.Goals as goal

pub invariant_of-result : goal.invariant_of-result
invariant_of-result g c =
    let seats = c.seat_all-seats.result.items in
    let count = together_length (IsSeatOf g.W.Promised.keeps) c.args.workers.items seats c.seat_all-seats.ensures in
    record {
      seated = rw c.of-given.ensures c.seat_all-seats.ensures;
      none_ended = c.in-Ok-with_capacity-3.ensures.items;
      reserved = omega (arith, count, c.in-Ok-with_capacity-3.ensures.capacity, c.len-count.ensures, c.args.workers.ok.0);
    }

pub leave_all-requires-clause-room : goal.leave_all-requires-clause-room
leave_all-requires-clause-room g c =
    let seats = c.seat_all-seats.result.items in
    let count = together_length (IsSeatOf g.W.Promised.keeps) c.args.workers.items seats c.seat_all-seats.ensures in
    omega (arith, count, c.in-Ok-with_capacity-2.ensures.capacity, c.len-count.ensures, c.args.workers.ok.0)

pub returns-clause-err : goal.returns-clause-err
returns-clause-err g c =
    all_left g.W.Promised.keeps c.args.workers.items c.seat_all-seats.result.items c.leave_all.result.items c.seat_all-seats.ensures c.leave_all.ensures
