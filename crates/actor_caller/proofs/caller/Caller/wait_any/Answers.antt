use Rattle.actor_caller.specs.Waiting.{AreAllPending}
use Rattle.actor_caller.proofs.InARow.{no_try, one_try}
use Rattle.actor_caller.proofs.caller.Caller.wait_any.Goals as goal

pub loop-init : goal.loop-init
loop-init g c = no_try (AreAllPending c.args.tickets.now) c.args.self.now

pub loop-preserved : goal.loop-preserved
loop-preserved g c = one_try (AreAllPending c.args.tickets.now) c.args.self.now c.loop.self c.redeem_first.new.self c.rest.new.self c.loop.invariant c.in_default.ensures.none c.rest.ensures
