use Rattle.judge_audit.proofs.Names.{arith, at_place, at_start, Journal, KnowsOrdersOf, next_order, refl, subst, sym, whole_walk, ℕ}
use Rattle.judge_audit.proofs.links.orders_of.Goals as goal

pub loop-place-init : goal.loop-place-init
loop-place-init c = λ name. rw (at_start c.args.journal.now.notes, c.new-orders.ensures) refl

pub loop-place-preserved : goal.loop-place-preserved
loop-place-preserved c =
    subst (λ (journal : Journal ℕ). KnowsOrdersOf c.keep_first.new.self journal) (sym c.note_at-note.ensures)
    (
    next_order c.note_at-note.result (at_place c.loop-place.place c.args.journal.now.notes) _ _ (rw c.order_told.ensures at c.in_ok-keep_first.ensures.set)
    c.loop-place.invariant
    )

pub returns : goal.returns
returns c =
    whole_walk (λ journal. KnowsOrdersOf c.loop-place.orders journal) c.args.journal.now.notes c.loop-place.place (omega arith) c.loop-place.invariant
