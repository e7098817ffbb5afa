use Rattle.judge_fronts.proofs.Names.{ap, at_place, is_told_closed, Journal, subst, sym, ◌||◌, ◌∙◌, ◌≡◌}
use Rattle.judge_fronts.proofs.gates.is_closed.Goals as goal
use Rattle.judge_fronts.proofs.gates.is_closed.Goals.{then-tells_closed, else-tells_closed}

pub loop-place-preserved : goal.loop-place-preserved
loop-place-preserved c =
    let before = at_place c.loop-place.place c.args.journal.now.notes in
    let next = c.tells_closed.ensures before in
    subst (λ (journal : Journal _). c.if-tells_closed.told ≡ is_told_closed c.args.close.now journal) (sym c.note_at-note.ensures)
    (
    elim c.if-tells_closed.branch [
      | then-tells_closed w ↦ w.told-is ∙ sym (next ∙ ap (λ test. test || is_told_closed c.args.close.now before) w.if-tells_closed.true)
      | else-tells_closed w ↦
          w.told-is ∙ (c.loop-place.invariant ∙ sym (next ∙ ap (λ test. test || is_told_closed c.args.close.now before) w.if-tells_closed.false))
    ]
    )
