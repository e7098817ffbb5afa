use Rattle.actor_caller.specs.Waiting.{AreAllPending, Waits}
use Rattle.actor_caller.proofs.caller.Caller.wait_any.Given as goal

abbrev pub invariant-loop : goal.invariant-loop
invariant-loop g l = Waits (AreAllPending l.tickets) l.fn.self l.self
