use Rattle.judge_audit.proofs.Names.{arith, at_place, at_start, both_ways, EachNote, Journal, StartsRight, subst, sym, whole_walk, ℕ}
use Rattle.judge_audit.proofs.starts.starts_fault.Goals as goal

pub loop-place-init : goal.loop-place-init
loop-place-init c =
    λ assembly orders. subst (λ (before : Journal ℕ). EachNote (StartsRight assembly) before) (sym (at_start c.args.journal.now.notes)) tt

pub loop-place-preserved : goal.loop-place-preserved
loop-place-preserved c =
    λ assembly orders.
    let facts = c.fact-fact.ensures c.args.journal.now.notes _ _ c.requires (omega arith) c.note_at-note.ensures in
    subst (λ (before : Journal ℕ). EachNote (StartsRight assembly) before) (sym c.note_at-note.ensures) (
      c.starts_right.ensures.right assembly _ orders facts c.if-not-starts_right.false,
      c.loop-place.invariant assembly orders,
    )

pub returns-clause-kept : goal.returns-clause-kept
returns-clause-kept c =
    λ none assembly orders.
    whole_walk (λ journal. EachNote (StartsRight assembly) journal) c.args.journal.now.notes c.loop-place.place (omega arith)
    (c.loop-place.invariant assembly orders)

pub returns-then-not-starts_right-clause-named : goal.returns-then-not-starts_right-clause-named
returns-then-not-starts_right-clause-named c =
    λ assembly orders.
    let facts = c.fact-fact.ensures c.args.journal.now.notes _ _ c.requires (omega arith) c.note_at-note.ensures in
    record {
      note = c.note_at-note.result;
      before = at_place c.loop-place.place c.args.journal.now.notes;
      within = omega arith;
      there = c.note_at-note.ensures;
      kept = c.loop-place.invariant assembly orders;
      broken =
          λ right.
          both_ways c.starts_right.result c.if-not-starts_right.true
          (c.starts_right.ensures.only assembly _ orders facts right);
    }
