-- The jobs that wait in the queues so far are seen.
use Rattle.std.proofs.Common.{get_or}
use Rattle.note_facts.specs.Accounts.{fresh_account}
use Rattle.note_stats.specs.Tallies.{no_tally}
use Rattle.judge_view.specs.Watches.{no_watch, seen, waiting_in}
use Rattle.judge_view.proofs.Tables.{AreChanged}
use Rattle.judge_view.proofs.watches.see_all.Given as goal

abbrev pub invariant-loop-queue : goal.invariant-loop-queue
invariant-loop-queue l =
    AreChanged (λ queue watch. seen (waiting_in (get_or l.accounts queue fresh_account) (get_or l.tallies queue no_tally)) watch) no_watch l.initial.each l.each l.queue
