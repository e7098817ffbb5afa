use Rattle.run_worker.proofs.Names.{HearsFirst, NotesNoPoll, StepsServed, ◌*◌, ◌+◌, ◌≡◌}
use Rattle.run_worker.proofs.served.Served.deliver_all.Given as goal

abbrev pub invariant-loop-sender : goal.invariant-loop-sender
invariant-loop-sender g l = record {
  steps : StepsServed (l.sender * (2 * l.fn.self.linked.recorded.cap)) l.fn.self l.some l.self;
  hears : HearsFirst l.sender l.fn.self l.self;
  end : l.sender-end ≡ l.fn.self.linked.recorded.core.cores + 1;
  polls : NotesNoPoll l.fn.self.linked.recorded.journal.notes l.self.linked.recorded.journal.notes;
}
