use Rattle.std.proofs.Common.{ℕ, ◌≤◌}
use Rattle.base_words.specs.Journal.{at_place}
use Rattle.note_stats.specs.Walks.{KnowsSums}
use Rattle.note_stats.proofs.sums.Sums.read.Given as goal

abbrev pub invariant-loop-place : goal.invariant-loop-place
invariant-loop-place l = record {
  within : l.place ≤ l.to;
  known : (burst : ℕ) → KnowsSums burst l.fn.self (at_place l.from l.journal.notes) → KnowsSums burst l.self (at_place l.place l.journal.notes);
}
