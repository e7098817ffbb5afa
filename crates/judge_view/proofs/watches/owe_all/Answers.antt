use Rattle.std.proofs.Common.{◌≡◌, ◌<◌, length, get_or, ap, ◌∙◌, arith}
use Rattle.note_facts.specs.Accounts.{fresh_account}
use Rattle.judge_view.specs.Shares.{part}
use Rattle.judge_view.specs.Watches.{no_watch, owed, shares_in}
use Rattle.judge_view.proofs.Tables.{none_changed, one_changed}
use Rattle.judge_view.proofs.WatchSteps.{owed_one}
use Rattle.judge_view.proofs.watches.owe_all.Goals as goal

pub loop-queue-init : goal.loop-queue-init
loop-queue-init c = none_changed _ _ _

pub loop-queue-preserved : goal.loop-queue-preserved
loop-queue-preserved c =
    let sized : length c.args.each.now ≡ 256 = c.told-each in
    let within : c.loop-queue.queue < length c.loop-queue.each = omega (arith, sized, c.loop-queue.invariant.sized) in
    one_changed _ _ _ c.loop-queue.each c.loop-queue.queue c.owe.new.self c.loop-queue.invariant within
    (owed_one c.args.accounts.now c.loop-queue.each c.loop-queue.queue _ _ (omega arith) within c.args.time c.busy_shares-all.result _ _ _ c.shares_in.ensures.value c.part-more.ensures c.owe.ensures)

pub returns : goal.returns
returns c =
    λ queue less.
    c.loop-queue.invariant.changed queue (omega arith)
    ∙ ap (λ all. owed (part c.args.time (shares_in (get_or c.args.accounts.now queue fresh_account)) all) (get_or c.args.each.now queue no_watch)) c.busy_shares-all.ensures
