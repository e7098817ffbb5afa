use Rattle.std.proofs.Common.{take}
use Rattle.actor_caller.specs.Waiting.{AreAllPending}
use Rattle.actor_caller.proofs.caller.Caller.redeem_first.Given as goal

abbrev pub invariant-loop-place : goal.invariant-loop-place
invariant-loop-place g l = AreAllPending (take l.place l.tickets) l.fn.self l.self
