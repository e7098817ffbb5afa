use Rattle.std.proofs.Common.{◌≡◌, ℕ, ◌<◌, length, sym, ap, ◌∙◌, arith}
use Rattle.base_words.specs.Journal.{Journal, at_place}
use Rattle.note_facts.specs.Accounts.{greatest_count}
use Rattle.note_facts.proofs.Walks.{at_start, whole_walk}
use Rattle.judge_view.specs.Clocks.{clock_after, clock_of}
use Rattle.judge_view.proofs.ClockSteps.{clock_next, length-at_place}
use Rattle.judge_view.proofs.clocks.clock_of.Goals as goal

pub loop-place-init : goal.loop-place-init
loop-place-init c = c.new-clock.ensures ∙ ap (clock_of {T = ℕ}) (sym (at_start c.args.journal.now.notes))

pub loop-place-preserved : goal.loop-place-preserved
loop-place-preserved c =
    let notes = c.args.journal.now.notes in
    let before = at_place c.loop-place.place notes in
    let note = c.note_at-note.result in
    let short : length before < greatest_count = omega (arith, length-at_place c.loop-place.place notes, c.len-place-end.ensures.value, c.len-place-end.ensures.limits) in
    c.add.ensures
    ∙ (ap (clock_after {T = ℕ} note) c.loop-place.invariant ∙ (clock_next note before short ∙ ap (clock_of {T = ℕ}) (sym c.note_at-note.ensures)))

pub returns : goal.returns
returns c =
    whole_walk (λ (journal : Journal ℕ). c.loop-place.clock ≡ clock_of journal) c.args.journal.now.notes c.loop-place.place (omega arith) c.loop-place.invariant
