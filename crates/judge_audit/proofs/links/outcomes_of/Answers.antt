use Rattle.judge_audit.proofs.Names.{arith, at_place, at_start, Journal, KnowsOutcomesOf, next_outcome, refl, subst, sym, whole_walk, ℕ}
use Rattle.judge_audit.proofs.links.outcomes_of.Goals as goal

pub loop-place-init : goal.loop-place-init
loop-place-init c = λ name. rw (at_start c.args.journal.now.notes, c.new-outcomes.ensures) refl

pub loop-place-preserved : goal.loop-place-preserved
loop-place-preserved c =
    subst (λ (journal : Journal ℕ). KnowsOutcomesOf c.keep_first.new.self journal) (sym c.note_at-note.ensures)
    (
    next_outcome c.note_at-note.result (at_place c.loop-place.place c.args.journal.now.notes) _ _ (rw c.outcome_told.ensures at c.in_ok-keep_first.ensures.set)
    c.loop-place.invariant
    )

pub returns : goal.returns
returns c =
    whole_walk (λ journal. KnowsOutcomesOf c.loop-place.outcomes journal) c.args.journal.now.notes c.loop-place.place (omega arith) c.loop-place.invariant
