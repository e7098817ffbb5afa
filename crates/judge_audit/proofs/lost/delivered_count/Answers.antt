use Rattle.judge_audit.proofs.Names.{ap, arith, at_place, delivered_names, Journal, length, subst, sym, ℕ, ◌+◌, ◌∙◌, ◌≡◌, ◌≤◌}
use Rattle.judge_audit.proofs.lost.delivered_count.Goals as goal
use Rattle.judge_audit.proofs.lost.delivered_count.Goals.{then-is_delivered_from, else-is_delivered_from}

pub loop-place-preserved : goal.loop-place-preserved
loop-place-preserved c =
    subst
    (λ (journal : Journal ℕ). (c.if-is_delivered_from.count ≡ length (delivered_names c.args.sender journal)) × (c.if-is_delivered_from.count ≤ c.loop-place.place + 1))
    (sym c.note_at-note.ensures)
    (
    elim c.if-is_delivered_from.branch [
      | then-is_delivered_from w ↦ (
        let one_more = rw w.if-is_delivered_from.true at (c.is_delivered_from.ensures (at_place c.loop-place.place c.args.journal.now.notes)) in
            w.count-is ∙ (ap (λ count. count + 1) c.loop-place.invariant.0 ∙ sym one_more),
        omega (arith, w.count-is, c.loop-place.invariant.1),
      )
      | else-is_delivered_from w ↦ (
        let same = rw w.if-is_delivered_from.false at (c.is_delivered_from.ensures (at_place c.loop-place.place c.args.journal.now.notes)) in
            omega (arith, w.count-is, c.loop-place.invariant.0, same),
        omega (arith, w.count-is, c.loop-place.invariant.1),
      )
    ]
    )
