-- The clock and the time are those of the notes so far.
use Rattle.std.proofs.Common.{◌≡◌}
use Rattle.base_words.specs.Journal.{at_place}
use Rattle.judge_view.specs.Clocks.{clock_of}
use Rattle.fairview_pictures.specs.Cuts.{time_before}
use Rattle.fairview_pictures.proofs.cut.time_before.Given as goal

abbrev pub invariant-loop-place : goal.invariant-loop-place
invariant-loop-place l = record {
  clock : l.clock ≡ clock_of (at_place l.place l.journal.notes);
  time : l.time ≡ time_before l.turn (at_place l.place l.journal.notes);
}
