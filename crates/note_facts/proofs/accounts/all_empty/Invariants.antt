use Rattle.std.proofs.Common.{ℕ, ◌<◌, get_or}
use Rattle.note_facts.specs.Accounts.{fresh_account}
use Rattle.note_facts.specs.AllAccounts.{IsEmpty}
use Rattle.note_facts.proofs.accounts.all_empty.Given as goal

abbrev pub invariant-loop-queue : goal.invariant-loop-queue
invariant-loop-queue l = (queue : ℕ) → queue < l.queue → IsEmpty (get_or l.accounts queue fresh_account)
