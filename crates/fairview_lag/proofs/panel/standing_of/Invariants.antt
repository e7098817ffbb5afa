-- What is known is what the notes so far tell.
use Rattle.base_words.specs.Journal.{at_place}
use Rattle.fairview_marks.specs.Leads.{KnowsStanding}
use Rattle.fairview_lag.proofs.panel.standing_of.Given as goal

abbrev pub invariant-loop-place : goal.invariant-loop-place
invariant-loop-place l = KnowsStanding l.burst l.standing (at_place l.place l.journal.notes)
