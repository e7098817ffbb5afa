use Rattle.run_worker.proofs.Names.{NotesNoPoll, StepsServed, WakesSome, ◌*◌, ◌≡◌}
use Rattle.std.specs.Prelude.{false}
use Rattle.run_worker.proofs.served.Served.wake_some.Given as goal

abbrev pub invariant-loop-count : goal.invariant-loop-count
invariant-loop-count g l = record {
  steps : StepsServed (2 * l.count) l.fn.self l.some l.self;
  woken : l.self.ending ≡ false → WakesSome l.now l.count l.fn.self.linked l.fn.timers l.self.linked l.timers;
  cap_is : l.cap ≡ l.fn.self.linked.recorded.cap;
  polls : NotesNoPoll l.fn.self.linked.recorded.journal.notes l.self.linked.recorded.journal.notes;
}
