-- The queues so far are owed their parts.
use Rattle.std.proofs.Common.{get_or}
use Rattle.note_facts.specs.Accounts.{fresh_account}
use Rattle.judge_view.specs.Shares.{part}
use Rattle.judge_view.specs.Watches.{no_watch, owed, shares_in}
use Rattle.judge_view.proofs.Tables.{AreChanged}
use Rattle.judge_view.proofs.watches.owe_all.Given as goal

abbrev pub invariant-loop-queue : goal.invariant-loop-queue
invariant-loop-queue l =
    AreChanged (λ queue watch. owed (part l.time (shares_in (get_or l.accounts queue fresh_account)) l.all) watch) no_watch l.initial.each l.each l.queue
