use Rattle.judge_audit.proofs.Names.{ap, arith, at_place, at_start, both_ways, ClosesSoFar, EachNote, IsFirstFault, Journal, journal_of, RespectsCloses, subst, sym, whole_walk, ℕ, ◌+◌, ◌∙◌}
use Rattle.judge_audit.proofs.closes.closes_fault.Goals as goal

pub loop-place-init : goal.loop-place-init
loop-place-init c =
    subst (λ (before : Journal ℕ). ClosesSoFar c.args.assembly.now c.args.core c.new-closes.result before) (sym (at_start c.journal-journal.result.now.notes))
    (record { known = c.new-closes.ensures; right = tt })

pub loop-place-preserved : goal.loop-place-preserved
loop-place-preserved c =
    subst (λ (before : Journal ℕ). ClosesSoFar c.args.assembly.now c.args.core c.add.new.self before) (sym c.note_at-note.ensures)
    (
    record {
      known = c.add.ensures _ c.loop-place.invariant.known;
      right = (c.respects_closes.ensures.right _ c.loop-place.invariant.known c.if-not-respects_closes.false, c.loop-place.invariant.right);
    }
    )

pub returns-clause-kept : goal.returns-clause-kept
returns-clause-kept c =
    λ none.
    subst (λ (journal : Journal ℕ). EachNote (RespectsCloses c.args.assembly.now c.args.core) journal)
    (c.journal-journal.ensures ∙ ap (λ (actor : ℕ). journal_of actor c.args.assembly.now) c.core.view_is)
    (
    whole_walk (λ journal. EachNote (RespectsCloses c.args.assembly.now c.args.core) journal) c.journal-journal.result.now.notes c.loop-place.place
    (omega arith) c.loop-place.invariant.right
    )

pub returns-then-not-respects_closes-clause-named : goal.returns-then-not-respects_closes-clause-named
returns-then-not-respects_closes-clause-named c =
    subst (λ (journal : Journal ℕ). IsFirstFault (RespectsCloses c.args.assembly.now c.args.core) journal (c.loop-place.place + 1))
    (c.journal-journal.ensures ∙ ap (λ (actor : ℕ). journal_of actor c.args.assembly.now) c.core.view_is)
    (
    record {
      note = c.note_at-note.result;
      before = at_place c.loop-place.place c.journal-journal.result.now.notes;
      within = omega arith;
      there = c.note_at-note.ensures;
      kept = c.loop-place.invariant.right;
      broken =
          λ right.
          both_ways c.respects_closes.result c.if-not-respects_closes.true (c.respects_closes.ensures.only _ c.loop-place.invariant.known right);
    }
    )
