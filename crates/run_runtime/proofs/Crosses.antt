-- A worker, and what it gives back, may go to another thread.
use Prim.Native.Nat.{ℕ}
use denote.RattleType.{RattleType}
use denote.Param.{param}
use denote.Param.Send.{IsSend, sendable}
use denote.Struct.Field.{u64-field}
use Rattle.base_jobs.specs.declared.job.Task.{Ghosts}
use Rattle.base_jobs.specs.declared.state.CoreState.{Ghosts as Begins}
use Rattle.std.proofs.Crossing.{crosses}
use Rattle.std.specs.contracts.alloc.Global.{the_row as global}
use Rattle.std.specs.contracts.impls.GlobalAllocator.TheImpl.{ghosts as its_alloc}
use Rattle.std.below.core.specs.contracts.clone.Clone+copy.TheImpl.{ghosts as copied}
use Rattle.core_timeline.proofs.tree.Tree.TheLaws.TheKnot as tree
use Rattle.actor_desk.specs.contracts.lane.Lane.{the_row as lane}
use Rattle.actor_desk.specs.contracts.shelf.Shelf.{the_row as shelf}
use Rattle.note_journal.specs.declared.sink.Sink.{Ghosts as Passes}
use Rattle.note_journal.proofs.running.RunningJournal.TheSendSync as journal
use Rattle.link_ring.proofs.ends.Ends.TheSendSync as ends
use Rattle.core_core.specs.contracts.one_core.Core.{the_row as core}
use Rattle.actor_desk.specs.contracts.recorded_desk.RecordedDesk.{the_row as desk}
use Rattle.actor_core.specs.contracts.recorded.Recorded.{the_row as recorded}
use Rattle.actor_seat.proofs.bell.Bell.TheSendSync as bell
use Rattle.run_watch.proofs.publisher.Publisher.TheSendSync as publisher
use Rattle.actor_seat.specs.contracts.seat.Seat.{the_row as seat}
use Rattle.run_worker.specs.contracts.ended.Ended.{the_row as ended}
use Rattle.run_worker.specs.contracts.worker.Worker.{the_row as worker}

-- The state that jobs share is the type at this place of the function that starts them.
module _ (T L : RattleType) (n : ℕ) (t : Ghosts (param 0 T).Denot ℕ (param n L).Denot) (b : Begins (param n L).Denot) (j : IsSend (param 0 T)) (l : IsSend (param n L)) where
  core_send : IsSend (core (param 0 T) global u64-field.row (param n L) t its_alloc (copied global))
  core_send = search (crosses, tree.crosses, sendable) depth 60 fits 20000

  shelf_send : IsSend (shelf (param 0 T) u64-field.row)
  shelf_send = search (crosses, sendable) depth 60 fits 20000

  lane_send : IsSend (lane (param 0 T) u64-field.row (param n L) t)
  lane_send = search (shelf_send, crosses, sendable) depth 60 fits 20000

  desk_send : IsSend (desk (param 0 T) (param n L) t)
  desk_send = search (lane_send, journal.the_send, crosses, sendable) depth 60 fits 20000

  recorded_send : IsSend (recorded (param 0 T) global (param n L) t its_alloc (copied global))
  recorded_send = search (core_send, desk_send, crosses, sendable) depth 60 fits 20000

  seat_send : IsSend (seat (param 0 T) (param n L) t b)
  seat_send = search (recorded_send, ends.the_send, crosses, sendable) depth 60 fits 20000

  module _ (S : RattleType) (sink : Passes (param 3 S).Denot) (s : IsSend (param 3 S)) where
    pub ended_send : IsSend (ended (param 0 T) (param 3 S) (param n L) t b sink)
    ended_send = search (seat_send, publisher.the_send, crosses, sendable) depth 60 fits 20000

    pub worker_send : (C G : RattleType) → IsSend (param 1 C) → IsSend (param 2 G) → IsSend (worker (param 0 T) (param 1 C) (param 2 G) (param 3 S) (param n L) t b sink)
    worker_send C G c g = search (seat_send, bell.the_send, publisher.the_send, crosses, sendable) depth 60 fits 20000
