use Rattle.judge_fronts.proofs.Names.{ap, arith, at_place, Journal, length_of, subst, sym, ℕ, ◌+◌, ◌∙◌, ◌≡◌, ◌≤◌}
use Rattle.judge_fronts.proofs.counts.count_told.Goals as goal
use Rattle.judge_fronts.proofs.counts.count_told.Goals.{then-tells, else-tells}

pub loop-place-preserved : goal.loop-place-preserved
loop-place-preserved c =
    subst
    (λ (journal : Journal ℕ). (c.if-tells.count ≡ length_of c.args.side.now journal) × (c.if-tells.count ≤ c.loop-place.place + 1))
    (sym c.note_at-note.ensures)
    (
    elim c.if-tells.branch [
      | then-tells w ↦ (
        let one_more = rw w.if-tells.true at (c.tells.ensures (at_place c.loop-place.place c.args.journal.now.notes)) in
            w.count-is ∙ (ap (λ count. count + 1) c.loop-place.invariant.0 ∙ sym one_more),
        omega (arith, w.count-is, c.loop-place.invariant.1),
      )
      | else-tells w ↦ (
        let same = rw w.if-tells.false at (c.tells.ensures (at_place c.loop-place.place c.args.journal.now.notes)) in
            omega (arith, w.count-is, c.loop-place.invariant.0, same),
        omega (arith, w.count-is, c.loop-place.invariant.1),
      )
    ]
    )
