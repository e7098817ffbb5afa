-- The columns are those of the notes so far.
use Rattle.std.proofs.Common.{◌≡◌, length}
use Rattle.base_words.specs.Journal.{at_place}
use Rattle.fairview_lag.specs.Columns.{AreColumns}
use Rattle.fairview_lag.specs.Stretches.{KnowsStretch}
use Rattle.fairview_lag.proofs.columns.columns_of.Given as goal

abbrev pub invariant-loop-place : goal.invariant-loop-place
invariant-loop-place l = record {
  stretch : KnowsStretch l.panel.burst l.panel.first l.panel.second l.stretch (at_place l.place l.journal.notes);
  sized : length l.columns.items ≡ 1000;
  each : AreColumns l.panel l.columns.items (at_place l.place l.journal.notes);
}
