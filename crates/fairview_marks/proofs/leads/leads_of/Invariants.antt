-- The leads are those of the notes so far.
use Rattle.std.proofs.Common.{◌≡◌}
use Rattle.base_words.specs.Journal.{at_place}
use Rattle.fairview_marks.specs.Leads.{leads, KnowsStanding}
use Rattle.fairview_marks.proofs.leads.leads_of.Given as goal

abbrev pub invariant-loop-place : goal.invariant-loop-place
invariant-loop-place l = record {
  standing : KnowsStanding l.burst l.standing (at_place l.place l.journal.notes);
  told : l.told.items ≡ leads l.burst l.first l.second (at_place l.place l.journal.notes);
}
