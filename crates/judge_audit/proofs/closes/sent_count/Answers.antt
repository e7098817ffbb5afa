use Rattle.judge_audit.proofs.Names.{accepted_orders, ap, arith, at_place, Journal, length, subst, sym, ℕ, ◌+◌, ◌∙◌, ◌≡◌, ◌≤◌}
use Rattle.judge_audit.proofs.closes.sent_count.Goals as goal
use Rattle.judge_audit.proofs.closes.sent_count.Goals.{then-is_sent_to, else-is_sent_to}

pub loop-place-preserved : goal.loop-place-preserved
loop-place-preserved c =
    subst
    (λ (journal : Journal ℕ). (c.if-is_sent_to.count ≡ length (accepted_orders c.args.core journal)) × (c.if-is_sent_to.count ≤ c.loop-place.place + 1))
    (sym c.note_at-note.ensures)
    (
    elim c.if-is_sent_to.branch [
      | then-is_sent_to w ↦ (
        let one_more = rw w.if-is_sent_to.true at (c.is_sent_to.ensures (at_place c.loop-place.place c.args.journal.now.notes)) in
            w.count-is ∙ (ap (λ count. count + 1) c.loop-place.invariant.0 ∙ sym one_more),
        omega (arith, w.count-is, c.loop-place.invariant.1),
      )
      | else-is_sent_to w ↦ (
        let same = rw w.if-is_sent_to.false at (c.is_sent_to.ensures (at_place c.loop-place.place c.args.journal.now.notes)) in
            omega (arith, w.count-is, c.loop-place.invariant.0, same),
        omega (arith, w.count-is, c.loop-place.invariant.1),
      )
    ]
    )
