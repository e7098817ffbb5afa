use Rattle.std.proofs.Common.{◌≡◌, length}
use Rattle.actor_caller.proofs.InARow.{Looks}
use Rattle.actor_caller.proofs.caller.Caller.collects_soon.Given as goal

abbrev pub invariant-loop : goal.invariant-loop
invariant-loop g l = record {
  looks : Looks l.fn.self l.self;
  none : length l.self.desk.journal.notes ≡ length l.fn.self.desk.journal.notes;
}
