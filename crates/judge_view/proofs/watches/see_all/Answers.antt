use Rattle.std.proofs.Common.{◌≡◌, ◌<◌, length, arith}
use Rattle.judge_view.proofs.Tables.{none_changed, one_changed}
use Rattle.judge_view.proofs.WatchSteps.{seen_one}
use Rattle.judge_view.proofs.watches.see_all.Goals as goal

pub loop-queue-init : goal.loop-queue-init
loop-queue-init c = none_changed _ _ _

pub loop-queue-preserved : goal.loop-queue-preserved
loop-queue-preserved c =
    let sized : length c.args.each.now ≡ 256 = c.told-each in
    let within : c.loop-queue.queue < length c.loop-queue.each = omega (arith, sized, c.loop-queue.invariant.sized) in
    one_changed _ _ _ c.loop-queue.each c.loop-queue.queue c.see.new.self c.loop-queue.invariant within
    (seen_one c.args.accounts.now c.loop-queue.each c.loop-queue.queue _ _ (omega arith) within c.args.tallies.now _ _ _ (omega arith) c.waiting_in-waiting.ensures c.see.ensures)

pub returns : goal.returns
returns c = λ queue less. c.loop-queue.invariant.changed queue (omega arith)
