use Rattle.std.proofs.Common.{◌≡◌, min}
use Rattle.note_facts.specs.Accounts.{greatest_count}
use Rattle.note_stats.specs.Walks.{inside_below}
use Rattle.note_stats.proofs.figures.held.Given as goal

abbrev pub invariant-loop-queue : goal.invariant-loop-queue
invariant-loop-queue l = l.sum ≡ min (inside_below l.queue l.accounts) greatest_count
