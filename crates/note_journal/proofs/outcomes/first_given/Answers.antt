use Rattle.std.proofs.Common.{◌≡◌, ◌+◌, sym, ap, ◌∙◌, reverse, take}
use Rattle.std.proofs.lemmas.List.{reverse-reverse, take_all}
use Rattle.base_words.specs.Assembly.{first_under}
use Rattle.base_words.specs.Filters.{given_outcomes}
use Rattle.note_journal.proofs.Given.{first_next, first_of_all}
use Rattle.note_journal.proofs.outcomes.first_given.Goals as goal

pub loop-note-preserved : goal.loop-note-preserved
loop-note-preserved c =
    first_next c.args.name.now c.as_slice-note-items.result.now c.loop-note.note-index c.note-item.result c.loop-note-test.true c.note-item.is c.loop-note.invariant
    ∙ sym c.given_by.ensures ∙ c.in_default.is

pub returns-in-Some : goal.returns-in-Some
returns-in-Some c =
    sym (
    first_of_all c.args.name.now c.as_slice-note-items.result.now c.args.journal.now.notes (c.loop-note.note-index + 1) c.in-Some.outcome c.as_slice-note-items.ensures (
    first_next c.args.name.now c.as_slice-note-items.result.now c.loop-note.note-index c.note-item.result c.loop-note-test.true c.note-item.is c.loop-note.invariant
    ∙ sym c.given_by.ensures ∙ c.in-Some.is))

pub returns : goal.returns
returns c =
    let notes = c.as_slice-note-items.result.now in
    let whole : reverse (take c.loop-note.note-index notes) ≡ c.args.journal.now.notes =
    ap reverse (take_all c.loop-note.note-index notes c.loop-note-test.false ∙ c.as_slice-note-items.ensures) ∙ reverse-reverse c.args.journal.now.notes in
    sym (ap (λ journal. first_under c.args.name.now (given_outcomes c.args.name.now.from journal)) (sym whole) ∙ c.loop-note.invariant)
