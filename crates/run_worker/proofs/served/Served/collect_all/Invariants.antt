use Rattle.run_worker.proofs.Names.{CollectsFirst, NotesNoPoll, StepsServed, ◌*◌, ◌≡◌}
use Rattle.run_worker.proofs.served.Served.collect_all.Given as goal

abbrev pub invariant-loop-core : goal.invariant-loop-core
invariant-loop-core g l = record {
  steps : StepsServed (l.core * l.fn.self.linked.recorded.cap) l.fn.self l.some l.self;
  collects : CollectsFirst l.core l.self;
  end : l.core-end ≡ l.fn.self.linked.recorded.core.cores;
  polls : NotesNoPoll l.fn.self.linked.recorded.journal.notes l.self.linked.recorded.journal.notes;
}
