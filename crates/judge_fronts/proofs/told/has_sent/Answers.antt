use Rattle.judge_fronts.proofs.Names.{ap, arith, at_place, is_some, Journal, None, order_in, order_sent, order_told, subst, sym, true, value_under, whole_walk, ◌+◌, ◌∙◌, ◌≡◌}
use Rattle.judge_fronts.proofs.Later.{told_by_place}
use Rattle.judge_fronts.proofs.Notes.{order_next, none_there}
use Rattle.judge_fronts.proofs.told.has_sent.Goals as goal

pub loop-place-preserved : goal.loop-place-preserved
loop-place-preserved c =
    let name = c.args.name.now in
    let note = c.note_at-note.result in
    let next = order_next name note (at_place c.loop-place.place c.args.journal.now.notes) c.loop-place.invariant in
    subst (λ (before : Journal _). order_in name before ≡ None) (sym c.note_at-note.ensures)
    (next ∙ none_there (value_under name (order_told note)) (sym c.sends.ensures ∙ c.if-sends.false))

pub returns-then-sends : goal.returns-then-sends
returns-then-sends c =
    let name = c.args.name.now in
    let note = c.note_at-note.result in
    let next = order_next name note (at_place c.loop-place.place c.args.journal.now.notes) c.loop-place.invariant in
    let here : is_some (order_in name (at_place (c.loop-place.place + 1) c.args.journal.now.notes)) ≡ true =
    ap (λ before. is_some (order_in name before)) c.note_at-note.ensures ∙ (ap is_some next ∙ (sym c.sends.ensures ∙ c.if-sends.true)) in
    sym (told_by_place (order_sent name.to) name (c.loop-place.place + 1) c.args.journal.now.notes here)

pub returns : goal.returns
returns c =
    let name = c.args.name.now in
    sym
    (
    ap is_some
    (whole_walk (λ before. order_in name before ≡ None) c.args.journal.now.notes c.loop-place.place (omega arith) c.loop-place.invariant)
    )
