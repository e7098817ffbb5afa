use Rattle.core_queues.proofs.Words.{ap, arith, ContainsKey, get, HasOwnSlips, is_some, JobId, LeavesSeat, length, length-set, line_at, MovesOut, name_of, Queue, queue_at, refl, set, Some, subst, sym, Waiting, ℕ, ◌<◌, ◌∙◌, ◌≡◌}
use Rattle.core_queues.proofs.Finds.{next_within}
use Rattle.core_queues.proofs.Named.{HoldsNone-nowhere}
use Rattle.core_queues.proofs.Names.{entry_of, key_within}
use Rattle.core_queues.proofs.Spots.{waits, parks, queue_read}
use Rattle.core_queues.proofs.Takes.{Found, FindsAt, not_first, before_filled}
use Rattle.core_queues.proofs.Views.{tail_filled, IsWithinLimits-view}
use Rattle.core_queues.proofs.Unparks.{both-le-len}
use Rattle.core_queues.proofs.Wakes.{WokenFrom, woken_from, finds_seat, finds_waiting, IsKept-woken, AreAtRest-woken, AreFound-woken, KeepsWake-found}
use Rattle.core_queues.proofs.queues.Queues.wake.Goals as goal
use Rattle.core_queues.proofs.queues.Queues.wake.Goals.{After-index-was, After-leave, In-Parked}

-- where the parked job of this name stands
seat_of : (g : _) (c : In-Parked g) → (index : ℕ) × (c.in-Parked.queue < length c.self.inside.lines.items)
    × FindsAt c.self.inside.jobs (line_at c.self.inside.lines.items (parks c.in-Parked.queue)) c.args.name (record { key = c.in-Some.key; index = index; before = c.in-Parked.before })
seat_of g c = finds_seat c.self.inside.names c.self.inside.seats.items c.args.name c.in-Some.key c.in-Parked.queue c.in-Parked.before c.self.invariant.0 c.self.invariant.3 c.in-Some.ensures.found c.in-Parked.ensures

-- what is read is its queue
read_of : (g : _) (c : After-index-was g) → queue_at c.self.inside.lines.items c.in-Parked.queue ≡ c.index-was.result.now
read_of g c =
    let inside = c.self.inside in
    let seat = finds_seat inside.names inside.seats.items c.args.name c.in-Some.key c.in-Parked.queue c.in-Parked.before c.self.invariant.0 c.self.invariant.3 c.in-Some.ensures.found c.in-Parked.ensures in
    queue_read inside.lines.items c.queue.inside.0 c.in-Parked.queue c.index-was.result.now (omega (arith, seat.1, c.queue.view_is)) c.index-was.ensures c.queue.view_is

-- the job goes to the tail of its queue
woken_of : (g : _) (c : After-leave g) → WokenFrom c.self.inside.room c.self.inside.lines.cap c.self.inside.jobs c.move_out-next.new.jobs c.self.inside.lines.items c.self.inside.names c.leave.new.seats.items c.args.name c.in-Parked.queue
    (set c.self.inside.lines.items c.in-Parked.queue (record (queue_at c.self.inside.lines.items c.in-Parked.queue) { waiting = c.move_out-next.result.2; parked = c.move_out-next.result.1 }))
woken_of g c =
    let inside = c.self.inside in
    let key = c.in-Some.key in
    let before = c.in-Parked.before in
    let seat = finds_seat inside.names inside.seats.items c.args.name key c.in-Parked.queue before c.self.invariant.0 c.self.invariant.3 c.in-Some.ensures.found c.in-Parked.ensures in
    let read = queue_read inside.lines.items c.queue.inside.0 c.in-Parked.queue c.index-was.result.now (omega (arith, seat.1, c.queue.view_is)) c.index-was.ensures c.queue.view_is in
    let next = c.move_out-next.result.0 in
    let moves = subst (λ (q : Queue). MovesOut inside.jobs q.parked key before q.waiting c.move_out-next.new.jobs next c.move_out-next.result.1 c.move_out-next.result.2) (sym read) c.move_out-next.ensures in
    let leaves = subst (λ (q : Queue). LeavesSeat inside.seats.items q.parked key next c.leave.new.seats.items) (sym read) c.leave.ensures in
    woken_from inside.names inside.seats.items c.leave.new.seats.items c.in-Parked.queue (record { key = key; index = seat.0; before = before }) c.args.name next c.move_out-next.result.1 c.move_out-next.result.2
    c.self.invariant.0 seat.1 seat.2 moves leaves c.self.invariant.2 c.self.invariant.3

pub returns-in_default-clause-wakes : goal.returns-in_default-clause-wakes
returns-in_default-clause-wakes g c =
    let inside = c.self.inside in
    let none : (key : ℕ) (waiting : Waiting g.row.J.Denot) → get inside.jobs key ≡ Some waiting → waiting.name ≡ c.args.name → ⊥ =
    λ key waiting is named. c.in_default.ensures.none key (c.self.invariant.3.named key ∙ ap name_of is ∙ ap (λ (name : JobId). Some name) named) in
    rw (← c.self.view_is) (HoldsNone-nowhere inside.room inside.jobs inside.lines.items c.args.name none, refl)

pub returns-in_default-clause-limits : goal.returns-in_default-clause-limits
returns-in_default-clause-limits g c = rw (← c.self.view_is) (IsWithinLimits-view c.self.invariant.0)

pub read_seat-requires : goal.read_seat-requires
read_seat-requires g c =
    let inside = c.self.inside in
    let entry = entry_of inside.jobs inside.names c.args.name c.in-Some.key c.self.invariant.3.named c.in-Some.ensures.found in
    omega (arith, key_within inside.jobs inside.names c.in-Some.key c.self.invariant.3.named (ap is_some entry.1), c.self.invariant.3.names_size, c.self.invariant.3.seats_size)

pub keep_wake-requires : goal.keep_wake-requires
keep_wake-requires g c = ap is_some (entry_of c.self.inside.jobs c.self.inside.names c.args.name c.in-Some.key c.self.invariant.3.named c.in-Some.ensures.found).1

pub invariant_of-self-in-Waits : goal.invariant_of-self-in-Waits
invariant_of-self-in-Waits g c =
    let inside = c.self.inside in
    let seat = finds_waiting inside.names inside.seats.items c.args.name c.in-Some.key c.self.invariant.0 c.self.invariant.3 c.in-Some.ensures.found c.in-Waits.ensures in
    let at : Found = record { key = c.in-Some.key; index = seat.1; before = seat.2 } in (
      IsKept-woken at.key c.self.invariant.0 c.keep_wake.ensures,
      c.self.invariant.1,
      AreAtRest-woken seat.0 at c.args.name c.self.invariant.0 seat.3 c.keep_wake.ensures c.self.invariant.2,
      AreFound-woken inside.names inside.seats.items at.key c.keep_wake.ensures c.self.invariant.3,
    )

pub returns-in-Waits-clause-wakes : goal.returns-in-Waits-clause-wakes
returns-in-Waits-clause-wakes g c =
    let inside = c.self.inside in
    let seat = finds_waiting inside.names inside.seats.items c.args.name c.in-Some.key c.self.invariant.0 c.self.invariant.3 c.in-Some.ensures.found c.in-Waits.ensures in
    let at : Found = record { key = c.in-Some.key; index = seat.1; before = seat.2 } in
    rw (← c.self.view_is) (KeepsWake-found seat.0 at c.args.name c.self.invariant.0 seat.3 c.keep_wake.ensures)

pub returns-in-Waits-clause-limits : goal.returns-in-Waits-clause-limits
returns-in-Waits-clause-limits g c = IsWithinLimits-view (IsKept-woken c.in-Some.key c.self.invariant.0 c.keep_wake.ensures)

pub index-was-requires : goal.index-was-requires
index-was-requires g c = omega (arith, (seat_of g (goal.at.index-was-requires g c).In-Parked).1, c.queue.view_is)

pub index_mut-requires : goal.index_mut-requires
index_mut-requires g c = omega (arith, (seat_of g (goal.at.index_mut-requires g c).In-Parked).1, c.queue.view_is)

pub move_out-next-requires : goal.move_out-next-requires
move_out-next-requires g c =
    let inside = c.self.inside in
    let at = goal.at.move_out-next-requires g c in
    let seat = seat_of g at.In-Parked in
    let read = read_of g at.After-index-was in
    let queue = c.in-Parked.queue in
    let was = c.index-was.result.now in
    let found : Found = record { key = c.in-Some.key; index = seat.0; before = c.in-Parked.before } in
    record {
      there = ap is_some seat.2.there;
      before = subst (λ (q : Queue). (q.parked.head ≡ c.in-Some.key → ⊥) → ContainsKey inside.jobs c.in-Parked.before) read
          (λ not_head. before_filled (parks queue) found c.self.invariant.0 seat.2.stands (not_first (line_at inside.lines.items (parks queue)) found seat.2.stands not_head));
      some = subst (λ (q : Queue). 0 < q.parked.count) read (omega (arith, seat.2.stands.within));
      tail = tail_filled c.self.invariant.0 (waits queue) was.waiting (ap (λ (q : Queue). q.waiting) read);
      short = omega (arith, both-le-len c.self.invariant.0 queue was seat.1 read, seat.2.stands.within, ap (λ (q : Queue). q.parked.count) read, c.self.invariant.0.within_room, c.self.ranges);
    }

pub leave-requires : goal.leave-requires
leave-requires g c =
    let inside = c.self.inside in
    let at = goal.at.leave-requires g c in
    let seat = seat_of g at.In-Parked in
    let key = c.in-Some.key in
    let moves = c.move_out-next.ensures in
    record {
      within = omega (arith, key_within inside.jobs inside.names key c.self.invariant.3.named (ap is_some seat.2.there), c.self.invariant.3.names_size, c.self.invariant.3.seats_size);
      behind = subst (λ (q : Queue). (q.parked.tail ≡ key → ⊥) → c.move_out-next.result.0 < length inside.seats.items) (read_of g at.After-index-was)
          (λ not_last. omega (arith, next_within inside.names inside.seats.items (parks c.in-Parked.queue) (record { key = key; index = seat.0; before = c.in-Parked.before }) moves.gone c.self.invariant.0 c.self.invariant.3 seat.2.stands moves.starts.at not_last, moves.next_is));
    }

pub invariant_of-self : goal.invariant_of-self
invariant_of-self g c =
    let at = goal.at.invariant_of-self g c in
    let woken = woken_of g at.After-leave in
    rw (c.queue.view_is, ← read_of g at.After-index-was) (
      woken.kept,
      subst (λ count. HasOwnSlips count c.self.inside.slips.at.cap c.self.inside.slips.at.items) (sym (length-set c.self.inside.lines.items c.in-Parked.queue _)) c.self.invariant.1,
      woken.rests,
      woken.found,
    )

pub returns-in-Parked-clause-wakes : goal.returns-in-Parked-clause-wakes
returns-in-Parked-clause-wakes g c =
    let at = goal.at.returns-in-Parked-clause-wakes g c in
    rw (← c.self.view_is, c.queue.view_is, ← read_of g at.After-index-was) (woken_of g at.After-leave).wakes

pub returns-in-Parked-clause-limits : goal.returns-in-Parked-clause-limits
returns-in-Parked-clause-limits g c =
    let at = goal.at.returns-in-Parked-clause-limits g c in
    rw (c.queue.view_is, ← read_of g at.After-index-was) (IsWithinLimits-view (woken_of g at.After-leave).kept)
