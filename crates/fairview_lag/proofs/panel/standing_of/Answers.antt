use Rattle.std.proofs.Common.{ℕ, ◌<◌, length, sym, subst, arith}
use Rattle.base_words.specs.Journal.{Journal, at_place}
use Rattle.note_facts.specs.Accounts.{greatest_count}
use Rattle.note_facts.proofs.Walks.{at_start, whole_walk}
use Rattle.judge_view.proofs.ClockSteps.{length-at_place}
use Rattle.fairview_marks.specs.Leads.{KnowsStanding}
use Rattle.fairview_lag.proofs.panel.standing_of.Goals as goal

pub loop-place-init : goal.loop-place-init
loop-place-init c = subst (λ (journal : Journal ℕ). KnowsStanding c.args.burst c.new-standing.result journal) (sym (at_start c.args.journal.now.notes)) c.new-standing.ensures

pub loop-place-preserved : goal.loop-place-preserved
loop-place-preserved c =
    let notes = c.args.journal.now.notes in
    let before = at_place c.loop-place.place notes in
    let short : length before < greatest_count = omega (arith, length-at_place c.loop-place.place notes, c.len-place-end.ensures.value, c.len-place-end.ensures.limits) in
    subst (λ (journal : Journal ℕ). KnowsStanding c.args.burst c.add.new.self journal) (sym c.note_at.ensures) (c.in_ok-add.ensures.knows c.args.burst before short c.loop-place.invariant)

pub returns : goal.returns
returns c = whole_walk (λ (journal : Journal ℕ). KnowsStanding c.args.burst c.loop-place.standing journal) c.args.journal.now.notes c.loop-place.place (omega arith) c.loop-place.invariant
