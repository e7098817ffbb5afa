use Rattle.std.proofs.Common.{ℕ, ◌<◌, length, sym, subst, arith}
use Rattle.base_words.specs.Journal.{Journal, at_place}
use Rattle.note_facts.specs.Accounts.{greatest_count}
use Rattle.note_facts.proofs.Walks.{at_start, whole_walk}
use Rattle.judge_view.proofs.ClockSteps.{length-at_place}
use Rattle.fairview_lag.specs.Columns.{AreColumns}
use Rattle.fairview_lag.specs.Stretches.{KnowsStretch}
use Rattle.fairview_lag.proofs.ColumnSteps.{columns_next}
use Rattle.fairview_lag.proofs.columns.columns_of.Goals as goal

pub loop-place-init : goal.loop-place-init
loop-place-init c =
    let none = sym (at_start c.args.journal.now.notes) in
    record {
      stretch =
          subst (λ (journal : Journal ℕ). KnowsStretch c.args.panel.now.burst c.args.panel.now.first c.args.panel.now.second c.new-stretch.result journal) none
          (c.new-stretch.ensures c.args.panel.now.first c.args.panel.now.second);
      sized = c.in_ok-columns.ensures.sized;
      each = subst (λ (journal : Journal ℕ). AreColumns c.args.panel.now c.in_ok-columns.columns.items journal) none c.in_ok-columns.ensures.each;
    }

pub loop-place-preserved : goal.loop-place-preserved
loop-place-preserved c =
    let panel = c.args.panel.now in
    let notes = c.args.journal.now.notes in
    let before = at_place c.loop-place.place notes in
    let short : length before < greatest_count = omega (arith, length-at_place c.loop-place.place notes, c.len-place-end.ensures.value, c.len-place-end.ensures.limits) in
    let knows = c.in_ok-add.ensures.knows panel.burst before short c.loop-place.invariant.stretch in
    record {
      stretch = subst (λ (journal : Journal ℕ). KnowsStretch panel.burst panel.first panel.second c.add.new.self journal) (sym c.note_at-note.ensures) knows;
      sized = c.mark.ensures.sized;
      each =
          subst (λ (journal : Journal ℕ). AreColumns panel c.mark.new.columns.items journal) (sym c.note_at-note.ensures)
          (columns_next panel c.loop-place.columns.items c.mark.new.columns.items c.note_at-note.result before c.lag-lag.result (c.lag-lag.ensures panel.burst before knows) c.mark.ensures.each
          c.loop-place.invariant.each);
    }

pub returns-clause-each : goal.returns-clause-each
returns-clause-each c =
    whole_walk (λ (journal : Journal ℕ). AreColumns c.args.panel.now c.loop-place.columns.items journal) c.args.journal.now.notes c.loop-place.place (omega arith) c.loop-place.invariant.each
