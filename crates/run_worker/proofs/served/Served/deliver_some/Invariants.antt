use Rattle.run_worker.proofs.Names.{nat_lt, NotesNoPoll, StepsServed, ◌*◌, ◌≡◌}
use Rattle.run_worker.proofs.Heard.{HearsMany}
use Rattle.run_worker.proofs.served.Served.deliver_some.Given as goal

abbrev pub invariant-loop-count : goal.invariant-loop-count
invariant-loop-count g l = record {
  steps : StepsServed (2 * l.count) l.fn.self (nat_lt 0 l.count) l.self;
  many : HearsMany l.sender l.count l.fn.self l.self;
  cap_is : l.cap ≡ l.fn.self.linked.recorded.cap;
  polls : NotesNoPoll l.fn.self.linked.recorded.journal.notes l.self.linked.recorded.journal.notes;
}
