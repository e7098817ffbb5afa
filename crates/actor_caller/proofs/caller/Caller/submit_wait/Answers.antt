use Rattle.std.proofs.Common.{◌≡◌, Err}
use Rattle.base_words.specs.declared.order.SendError.TheVariants.{Full}
use Rattle.actor_caller.specs.declared.error.SubmitError.TheVariants.{Send}
use Rattle.actor_caller.proofs.InARow.{one_try}
use Rattle.actor_caller.proofs.Vain.{full_again}
use Rattle.actor_caller.proofs.caller.Caller.submit_wait.Goals as goal

pub loop-preserved : goal.loop-preserved
loop-preserved g c =
    let outer = c.in-Err-Send-Full.is in
    let inner = c.in-Err-Send-Full.field-0-is in
    let last = c.in-Err-Send-Full.field-0-0-is in
    let same = c.in-Err-Send-Full.back-is in
    let is : c.submit.result ≡ Err (Send (Full c.in-Err-Send-Full.back)) = cc in
    let vain = full_again 3 c.args.to c.args.order c.loop.order c.in-Err-Send-Full.back c.loop.self c.submit.new.self c.submit.result is c.loop.invariant.same c.submit.ensures in
    record { same = vain.0; waits = one_try _ c.args.self.now c.loop.self c.submit.new.self c.rest.new.self c.loop.invariant.waits vain.1 c.rest.ensures }
