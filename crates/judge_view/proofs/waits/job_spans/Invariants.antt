-- What is known is what the notes so far tell.
use Rattle.base_words.specs.Journal.{at_place}
use Rattle.judge_view.specs.Waits.{KnowsWalk}
use Rattle.judge_view.proofs.waits.job_spans.Given as goal

abbrev pub invariant-loop-place : goal.invariant-loop-place
invariant-loop-place l = KnowsWalk l.walk (at_place l.place l.journal.notes)
