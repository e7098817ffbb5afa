-- The clock is that of the notes so far.
use Rattle.std.proofs.Common.{◌≡◌}
use Rattle.base_words.specs.Journal.{at_place}
use Rattle.judge_view.specs.Clocks.{clock_of}
use Rattle.fairview_pictures.proofs.times.busy_time.Given as goal

abbrev pub invariant-loop-place : goal.invariant-loop-place
invariant-loop-place l = l.clock ≡ clock_of (at_place l.place l.journal.notes)
