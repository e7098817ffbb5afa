use Rattle.std.proofs.Common.{◌∙◌, Err, ap, subst}
use Rattle.link_ends.specs.Fits.{Fits}
use Rattle.actor_caller.specs.Tickets.{RedeemsHere}
use Rattle.actor_caller.proofs.InARow.{no_try, one_try}
use Rattle.actor_caller.proofs.caller.Caller.wait.Goals as goal

pub loop-init : goal.loop-init
loop-init g c = no_try _ c.args.self.now

pub loop-preserved : goal.loop-preserved
loop-preserved g c =
    let pending = subst (λ answer. RedeemsHere (Fits g.J.Task.meaning) c.args.ticket c.loop.self answer c.redeem.new.self)
    (c.in-Err-Pending.is ∙ ap (λ error. Err error) c.in-Err-Pending.field-0-is) c.redeem.ensures in
    one_try _ c.args.self.now c.loop.self c.redeem.new.self c.rest.new.self c.loop.invariant pending c.rest.ensures
