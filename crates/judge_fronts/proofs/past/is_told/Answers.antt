use Rattle.judge_fronts.proofs.Names.{ap, at_place, is_told, Journal, name_at, or_left, subst, sym, ◌||◌, ◌∙◌, ◌≡◌}
use Rattle.judge_fronts.proofs.past.is_told.Goals as goal
use Rattle.judge_fronts.proofs.past.is_told.Goals.{then-tells_of, else-tells_of}

pub loop-place-preserved : goal.loop-place-preserved
loop-place-preserved c =
    let told = is_told (name_at c.args.step) c.args.name.now (at_place c.loop-place.place c.args.journal.now.notes) in
    subst (λ (before : Journal _). c.if-tells_of.told ≡ is_told (name_at c.args.step) c.args.name.now before) (sym c.note_at-note.ensures)
    (
    elim c.if-tells_of.branch [
      | then-tells_of w ↦ w.told-is ∙ sym (or_left _ told (sym c.tells_of.ensures ∙ w.if-tells_of.true))
      | else-tells_of w ↦ w.told-is ∙ (c.loop-place.invariant ∙ ap (λ test. test || told) (sym w.if-tells_of.false ∙ c.tells_of.ensures))
    ]
    )
