use Rattle.judge_audit.proofs.Names.{ap, arith, at_place, at_start, final_count, Journal, sym, whole_walk, ℕ, ◌∙◌, ◌≡◌}
use Rattle.judge_audit.proofs.lost.final_count.Goals as goal

pub loop-place-init : goal.loop-place-init
loop-place-init c = sym (ap (λ (journal : Journal ℕ). final_count c.args.sender journal) (at_start c.args.journal.now.notes))

pub loop-place-preserved : goal.loop-place-preserved
loop-place-preserved c =
    c.count_after-count.ensures (at_place c.loop-place.place c.args.journal.now.notes) c.loop-place.invariant ∙
    sym (ap (λ (journal : Journal ℕ). final_count c.args.sender journal) c.note_at-note.ensures)

pub returns : goal.returns
returns c =
    whole_walk (λ journal. c.loop-place.count ≡ final_count c.args.sender journal) c.args.journal.now.notes c.loop-place.place (omega arith)
    c.loop-place.invariant
