use Rattle.judge_audit.proofs.Names.{arith, at_place, at_start, greatest_count, Journal, KnowsAccounts, length, length-at_place, subst, sym, whole_walk, ℕ, ◌<◌}
use Rattle.judge_audit.proofs.lost.accounts_after.Goals as goal

pub loop-place-init : goal.loop-place-init
loop-place-init c =
    subst (λ (before : Journal ℕ). KnowsAccounts c.args.burst c.new-accounts.result before) (sym (at_start c.args.journal.now.notes))
    (c.new-accounts.ensures c.args.burst)

pub loop-place-preserved : goal.loop-place-preserved
loop-place-preserved c =
    let before = at_place c.loop-place.place c.args.journal.now.notes in
    let read : length before < greatest_count =
    omega (arith, length-at_place c.loop-place.place c.args.journal.now.notes, c.loop-place-test.true, c.len-place-end.type_inv) in
    let facts = c.fact-fact.ensures c.args.journal.now.notes _ _ c.requires (omega arith) c.note_at-note.ensures in
    subst (λ (journal : Journal ℕ). KnowsAccounts c.args.burst c.add.new.self journal) (sym c.note_at-note.ensures)
    (c.add.ensures.known before (c.spot.ensures before facts) read c.loop-place.invariant)

pub returns : goal.returns
returns c =
    whole_walk (λ journal. KnowsAccounts c.args.burst c.loop-place.accounts journal) c.args.journal.now.notes c.loop-place.place (omega arith) c.loop-place.invariant
