use Rattle.std.proofs.Common.{◌≡◌, [], ◌∙◌, ap, sym, subst, arith}
use Rattle.std.specs.Vec.Iter.{into_iter_items, into_iter_len}
use Rattle.run_team.proofs.Lists.{IsMade, made_all, made_first, made_more, together_length, together_more}
use Rattle.run_runtime.specs.Starting.{AreOpening, IsOpenedWith, IsWatcherOf, IsWiredWith}
use Rattle.run_team.specs.Works.{Together}
use Rattle.run_runtime.proofs.Started.{holds_next}
use Rattle.run_runtime.proofs.starting.open_seats.Goals as goal

pub loop-seat-init : goal.loop-seat-init
loop-seat-init g c =
    let gives = c.into_iter-seat-iterator.ensures.into_iter_gives in
    record {
      reserved = omega (arith, c.in_ok-workers.ensures.capacity, c.len.ensures, c.args.seats.ok.0);
      room = omega (arith, c.in_ok-watchers.ensures.capacity, c.len-2.ensures, c.args.seats.ok.0);
      watched = subst (λ watchers. Together IsWatcherOf c.in_ok-workers.workers.items watchers) (sym c.in_ok-watchers.ensures.items)
          (subst (λ workers. Together (IsWatcherOf {J = g.row.J.Denot} {T = _} {C = g.row.C.Denot} {G = g.row.G.Denot} {S = g.row.S.Denot}) workers []) (sym c.in_ok-workers.ensures.items) tt);
      made = made_first
          (λ seat worker. IsWiredWith (IsOpenedWith c.args.config.now.cores c.args.config.now.cap c.args.config.now.burst c.args.config.now.room c.args.config.now.queues.items seat.ends)
          seat.clock seat.gate seat.sink c.args.bells.now.names worker)
          c.args.seats.items (into_iter_items c.into_iter-seat-iterator.result)
          (into_iter_len c.into_iter-seat-iterator.result) c.in_ok-workers.workers.items gives.0 (gives.1 ∙ c.args.seats.ok.0) c.in_ok-workers.ensures.items;
    }

pub open-requires-clause-ends : goal.open-requires-clause-ends
open-requires-clause-ends g c =
    (holds_next (λ seat. AreOpening c.args.config.now.cores c.args.config.now.cap c.args.config.now.burst c.args.config.now.room c.args.config.now.queues.items seat.ends) c.args.seats.items c.loop-seat.invariant.made.done (into_iter_items c.loop-seat.seat-iterator)
    (into_iter_items c.next.new.self) c.in-Some.seat c.requires.each c.loop-seat.invariant.made.split c.in-Some.ensures.steps.0).ends_of

pub open-requires-clause-room : goal.open-requires-clause-room
open-requires-clause-room g c =
    (holds_next (λ seat. AreOpening c.args.config.now.cores c.args.config.now.cap c.args.config.now.burst c.args.config.now.room c.args.config.now.queues.items seat.ends) c.args.seats.items c.loop-seat.invariant.made.done (into_iter_items c.loop-seat.seat-iterator)
    (into_iter_items c.next.new.self) c.in-Some.seat c.requires.each c.loop-seat.invariant.made.split c.in-Some.ensures.steps.0).enough

pub open-requires-clause-none : goal.open-requires-clause-none
open-requires-clause-none g c =
    holds_next (λ seat. g.S.Sink.has seat.sink ≡ []) c.args.seats.items c.loop-seat.invariant.made.done (into_iter_items c.loop-seat.seat-iterator) (into_iter_items c.next.new.self) c.in-Some.seat c.requires.empty c.loop-seat.invariant.made.split
    c.in-Some.ensures.steps.0

pub loop-seat-preserved : goal.loop-seat-preserved
loop-seat-preserved g c =
    let loop = c.loop-seat in let steps = c.in-Some.ensures.steps in
    record {
      reserved = omega (arith, loop.invariant.reserved, c.push_reserved.ensures.capacity);
      room = omega (arith, loop.invariant.room, c.push_reserved-in-loop-seat.ensures.capacity);
      watched = rw c.push_reserved.ensures.items
          (rw c.push_reserved-in-loop-seat.ensures.items
          (together_more IsWatcherOf loop.workers.items loop.watchers.items c.in_ok-worker.worker c.in_ok-worker.watcher loop.invariant.watched
          (record {
            board = ap (λ watcher. watcher.board) c.in_ok-worker.ensures.watches;
            terms_are = ap (λ watcher. watcher.terms) c.in_ok-worker.ensures.watches;
            unseen = record {
              none = ap (λ watcher. watcher.notes) c.in_ok-worker.ensures.watches;
              count = ap (λ watcher. watcher.count) c.in_ok-worker.ensures.watches;
              closed = ap (λ watcher. watcher.closed) c.in_ok-worker.ensures.watches;
            };
          })));
      made = rw c.push_reserved.ensures.items
          (made_more
          (λ seat worker. IsWiredWith (IsOpenedWith c.args.config.now.cores c.args.config.now.cap c.args.config.now.burst c.args.config.now.room c.args.config.now.queues.items seat.ends)
          seat.clock seat.gate seat.sink c.args.bells.now.names worker)
          c.args.seats.items (into_iter_items loop.seat-iterator) (into_iter_items c.next.new.self)
          (into_iter_len loop.seat-iterator) (into_iter_len c.next.new.self) loop.workers.items c.in-Some.seat c.in_ok-worker.worker loop.invariant.made steps.0 steps.1
          (record {
            linked = record { over = c.in_ok-worker.ensures.over; queues_are = c.in_ok-worker.ensures.queues };
            clock_is = c.in_ok-worker.ensures.clock;
            gate_is = c.in_ok-worker.ensures.gate;
            sink_is = c.in_ok-worker.ensures.sink;
            bells_are = c.in_ok-worker.ensures.bells;
            tries_are = c.in_ok-worker.ensures.begins.1;
          }));
    }

pub returns-clause-workers : goal.returns-clause-workers
returns-clause-workers g c =
    let rest = into_iter_items c.loop-seat.seat-iterator in
    made_all
    (λ seat worker. IsWiredWith (IsOpenedWith c.args.config.now.cores c.args.config.now.cap c.args.config.now.burst c.args.config.now.room c.args.config.now.queues.items seat.ends)
    seat.clock seat.gate seat.sink c.args.bells.now.names worker)
    c.args.seats.items rest c.loop-seat.workers.items
    (subst
    (λ left. IsMade
    (λ seat worker. IsWiredWith (IsOpenedWith c.args.config.now.cores c.args.config.now.cap c.args.config.now.burst c.args.config.now.room c.args.config.now.queues.items seat.ends)
    seat.clock seat.gate seat.sink c.args.bells.now.names worker)
    c.args.seats.items rest left c.loop-seat.workers.items)
    c.in-None.ensures.steps.0 c.loop-seat.invariant.made)

pub returns-clause-watchers : goal.returns-clause-watchers
returns-clause-watchers g c = c.loop-seat.invariant.watched

pub push_reserved-requires-in-loop-seat : goal.push_reserved-requires-in-loop-seat
push_reserved-requires-in-loop-seat g c =
    omega (
      arith,
      c.loop-seat.invariant.room,
      together_length IsWatcherOf c.loop-seat.workers.items c.loop-seat.watchers.items c.loop-seat.invariant.watched,
      c.loop-seat.invariant.made.count,
      c.in-Some.ensures.steps.1,
      c.loop-seat.watchers.ok.0,
    )
