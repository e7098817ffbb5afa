use Rattle.std.proofs.Common.{◌≡◌, ◌*◌, ◌≤◌}
use Rattle.actor_caller.specs.Sends.{outstanding_upto}
use Rattle.actor_caller.proofs.caller.Caller.outstanding.Given as goal

abbrev pub invariant-loop-core : goal.invariant-loop-core
invariant-loop-core g l = record {
  counted : l.count ≡ outstanding_upto l.self.desk.journal.notes l.core;
  few : l.count ≤ l.core * 18446744073709551615;
}
