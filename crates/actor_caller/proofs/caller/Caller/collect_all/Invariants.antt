use Rattle.std.proofs.Common.{◌<◌, ◌↔◌, ◌≤◌, length}
use Rattle.std.specs.Prelude.{IsTrue}
use Rattle.actor_caller.specs.Waiting.{CollectsBelow}
use Rattle.actor_caller.proofs.caller.Caller.collect_all.Given as goal

abbrev pub invariant-loop-core : goal.invariant-loop-core
invariant-loop-core g l = record {
  collects : CollectsBelow l.core l.fn.self l.self;
  longer : length l.fn.self.desk.journal.notes ≤ length l.self.desk.journal.notes;
  told : IsTrue l.some ↔ (length l.fn.self.desk.journal.notes < length l.self.desk.journal.notes);
}
