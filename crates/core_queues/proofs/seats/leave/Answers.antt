use Rattle.core_queues.proofs.Words.{arith, false, length-set, ParkedAt}
use Rattle.core_queues.proofs.SeatWrites.{LeavesSeat-last, LeavesSeat-told}
use Rattle.core_queues.proofs.seats.leave.Goals as goal

pub index-requires : goal.index-requires
index-requires g c = c.requires.within

pub index_mut-requires : goal.index_mut-requires
index_mut-requires g c = c.requires.within

pub returns-then-line-key : goal.returns-then-line-key
returns-then-line-key g c = LeavesSeat-last c.args.seats.now.items c.args.line c.args.key c.args.next c.index_mut.result.now c.requires.within c.index_mut.ensures.value c.if-line-key.true

pub index_mut-requires-2 : goal.index_mut-requires-2
index_mut-requires-2 g c =
    let now : ParkedAt = record c.index_mut.result.now { parked = false } in
    omega (arith, c.requires.behind c.if-line-key.false, length-set c.args.seats.now.items c.args.key now)

pub returns : goal.returns
returns g c =
    LeavesSeat-told c.args.seats.now.items c.args.line c.args.key c.args.next c.index.result.now c.index_mut.result.now c.index_mut-2.result.now c.requires.within (c.requires.behind c.if-line-key.false) c.if-line-key.false c.index.ensures c.index_mut.ensures.value c.index_mut-2.ensures.value
