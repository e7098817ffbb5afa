use Rattle.std.proofs.Common.{◌+◌, ◌<◌, length, ap, ◌∙◌, arith}
use Rattle.note_facts.specs.Accounts.{fresh_account}
use Rattle.judge_view.specs.Watches.{shares_below, shares_in}
use Rattle.judge_view.proofs.WatchSteps.{any_default, no_shares, shares_more}
use Rattle.judge_view.proofs.watches.busy_shares.Goals as goal

pub loop-queue-init : goal.loop-queue-init
loop-queue-init c = record { is = no_shares c.args.accounts.now; fits = omega arith }

pub loop-queue-preserved : goal.loop-queue-preserved
loop-queue-preserved c = record {
  is =
      let within : c.loop-queue.queue < length c.args.accounts.now = omega arith in
      (λ i. c.loop-queue.invariant.is i + (c.shares_in.ensures.value ∙ ap shares_in (any_default c.args.accounts.now c.loop-queue.queue _ fresh_account within)) i)
      ∙ shares_more c.loop-queue.queue c.args.accounts.now;
  fits = omega (arith, c.shares_in.ensures.bounded);
}

pub returns : goal.returns
returns c = c.loop-queue.invariant.is ∙ ap (λ count. shares_below count c.args.accounts.now) (omega arith)
