-- The bars are those of the notes so far.
use Rattle.std.proofs.Common.{◌≡◌}
use Rattle.base_words.specs.Journal.{at_place}
use Rattle.fairview_marks.specs.Bars.{bars, KnowsPolls}
use Rattle.fairview_marks.proofs.polls.bars_of.Given as goal

abbrev pub invariant-loop-place : goal.invariant-loop-place
invariant-loop-place l = record {
  polls : KnowsPolls l.polls (at_place l.place l.journal.notes);
  told : l.told.items ≡ bars (at_place l.place l.journal.notes);
}
