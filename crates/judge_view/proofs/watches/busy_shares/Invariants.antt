-- The shares of the queues so far are summed, each below 10001.
use Rattle.std.proofs.Common.{◌≡◌, ◌≤◌, ◌*◌}
use Rattle.judge_view.specs.Watches.{shares_below}
use Rattle.judge_view.proofs.watches.busy_shares.Given as goal

abbrev pub invariant-loop-queue : goal.invariant-loop-queue
invariant-loop-queue l = record {
  is : l.sum ≡ shares_below l.queue l.accounts;
  fits : l.sum ≤ l.queue * 10001;
}
