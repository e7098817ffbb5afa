use Rattle.judge_fronts.proofs.Names.{arith, at_place, IsTold, Journal, subst, sym, ℕ, ◌+◌, ◌-◌, ◌∙◌, ◌∷◌, ◌≡◌, ◌≤◌}
use Rattle.judge_fronts.proofs.LostFaults.{OfNewest, told_lost}
use Rattle.judge_fronts.proofs.lost.is_certain.Goals as goal

pub returns-clause-lost : goal.returns-clause-lost
returns-clause-lost c = λ yes.
    let front = c.args.assembly.now in
    let note = c.note_at-note.result in
    let some : 1 ≤ c.args.line = omega arith in
    let line : (c.args.line - 1) + 1 ≡ c.args.line = omega arith in
    let there = subst (λ (at : ℕ). at_place at c.journal-journal.result.now.notes ≡ note ∷ at_place (c.args.line - 1) c.journal-journal.result.now.notes) line c.note_at-note.ensures in
    told_lost front c.requires.spelled c.args.actor c.args.line note
    (subst (λ (notes : Journal ℕ). at_place c.args.line notes ≡ note ∷ at_place (c.args.line - 1) notes) c.journal-journal.ensures there)
    c.args.rule c.requires.fault (c.is_told.ensures.right yes)

pub returns-clause-told : goal.returns-clause-told
returns-clause-told c = λ certain.
    let front = c.args.assembly.now in
    let note = c.note_at-note.result in
    let line : (c.args.line - 1) + 1 ≡ c.args.line = omega arith in
    let there = subst (λ (at : ℕ). at_place at c.journal-journal.result.now.notes ≡ note ∷ at_place (c.args.line - 1) c.journal-journal.result.now.notes) line c.note_at-note.ensures in
    let here = subst (λ (notes : Journal ℕ). at_place c.args.line notes ≡ note ∷ at_place (c.args.line - 1) notes) c.journal-journal.ensures there in
    c.is_told.ensures.only (subst (OfNewest (IsTold front c.args.actor c.args.line c.args.rule)) (sym certain.there ∙ here) certain.told)
