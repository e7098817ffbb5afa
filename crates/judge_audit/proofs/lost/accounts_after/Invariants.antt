use Rattle.judge_audit.proofs.Names.{at_place, KnowsAccounts}
use Rattle.judge_audit.proofs.lost.accounts_after.Given as goal

abbrev pub invariant-loop-place : goal.invariant-loop-place
invariant-loop-place l = KnowsAccounts l.burst l.accounts (at_place l.place l.journal.notes)
