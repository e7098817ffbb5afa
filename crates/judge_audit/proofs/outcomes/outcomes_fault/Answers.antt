use Rattle.judge_audit.proofs.Names.{arith, at_place, at_start, both_ways, EachNote, Journal, OutcomesRight, subst, sym, whole_walk, ℕ}
use Rattle.judge_audit.proofs.outcomes.outcomes_fault.Goals as goal

pub loop-place-init : goal.loop-place-init
loop-place-init c =
    λ assembly orders outcomes. subst (λ (before : Journal ℕ). EachNote (OutcomesRight assembly) before) (sym (at_start c.args.journal.now.notes)) tt

pub loop-place-preserved : goal.loop-place-preserved
loop-place-preserved c =
    λ assembly orders outcomes.
    let facts = c.fact-fact.ensures c.args.journal.now.notes _ _ c.requires (omega arith) c.note_at-note.ensures in
    subst (λ (before : Journal ℕ). EachNote (OutcomesRight assembly) before) (sym c.note_at-note.ensures) (
      c.outcomes_right.ensures.right assembly _ orders outcomes facts c.if-not-outcomes_right.false,
      c.loop-place.invariant assembly orders outcomes,
    )

pub returns-clause-kept : goal.returns-clause-kept
returns-clause-kept c =
    λ none assembly orders outcomes.
    whole_walk (λ journal. EachNote (OutcomesRight assembly) journal) c.args.journal.now.notes c.loop-place.place (omega arith)
    (c.loop-place.invariant assembly orders outcomes)

pub returns-then-not-outcomes_right-clause-named : goal.returns-then-not-outcomes_right-clause-named
returns-then-not-outcomes_right-clause-named c =
    λ assembly orders outcomes.
    let facts = c.fact-fact.ensures c.args.journal.now.notes _ _ c.requires (omega arith) c.note_at-note.ensures in
    record {
      note = c.note_at-note.result;
      before = at_place c.loop-place.place c.args.journal.now.notes;
      within = omega arith;
      there = c.note_at-note.ensures;
      kept = c.loop-place.invariant assembly orders outcomes;
      broken =
          λ right.
          both_ways c.outcomes_right.result c.if-not-outcomes_right.true
          (c.outcomes_right.ensures.only assembly _ orders outcomes facts right);
    }
