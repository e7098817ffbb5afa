-- What is known and what is listed is what the notes so far tell.
use Rattle.std.proofs.Common.{◌≡◌}
use Rattle.base_words.specs.Journal.{at_place}
use Rattle.judge_view.specs.Polls.{KnowsTurns, polls}
use Rattle.judge_view.proofs.polls.settled_polls.Given as goal

abbrev pub invariant-loop-place : goal.invariant-loop-place
invariant-loop-place l = record {
  walk : KnowsTurns l.walk (at_place l.place l.journal.notes);
  told : l.told.items ≡ polls (at_place l.place l.journal.notes);
}
