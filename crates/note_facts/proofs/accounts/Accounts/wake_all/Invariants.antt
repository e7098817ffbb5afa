use Rattle.note_facts.proofs.WokenAccounts.{WakesSoFar}
use Rattle.note_facts.proofs.accounts.Accounts.wake_all.Given as goal

abbrev pub invariant-loop-place : goal.invariant-loop-place
invariant-loop-place l = WakesSoFar l.fn.self l.self l.place
