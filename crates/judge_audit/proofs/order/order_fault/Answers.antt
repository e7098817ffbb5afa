use Rattle.judge_audit.proofs.Names.{AreReached, arith, at_place, at_start, both_ways, each_before, EachNote, IsSpelledNote, Journal, KnowsOrder, OrderSoFar, StandsInOrder, StartsRight, subst, sym, whole_walk, ℕ, ◌+◌, ◌∙◌}
use Rattle.judge_audit.proofs.NumberSteps.{entered_as_sent}
use Rattle.judge_audit.proofs.order.order_fault.Goals as goal

pub loop-place-init : goal.loop-place-init
loop-place-init c = record {
  so_far =
      λ assembly orders starts.
      subst (λ (before : Journal ℕ). OrderSoFar assembly c.new-numbers.result before) (sym (at_start c.args.journal.now.notes))
      (record { known = c.new-numbers.ensures.known assembly; right = tt });
  reached =
      λ assembly orders.
      subst (λ (before : Journal ℕ). AreReached assembly c.new-numbers.result before) (sym (at_start c.args.journal.now.notes))
      (c.new-numbers.ensures.reached assembly);
  rows = c.new-numbers.ensures.rows;
}

pub loop-place-preserved : goal.loop-place-preserved
loop-place-preserved c =
    let read = at_place c.loop-place.place c.args.journal.now.notes in
    record {
      so_far =
          λ assembly orders starts.
          let so_far = c.loop-place.invariant.so_far assembly orders starts in
          let here =
          subst (λ (journal : Journal ℕ). EachNote (StartsRight assembly) journal) c.note_at-note.ensures
          (each_before (StartsRight assembly) (c.loop-place.place + 1) c.args.journal.now.notes starts) in
          let stands =
          c.stands_in_order.ensures.right assembly read orders so_far.known (entered_as_sent assembly read so_far.right) here.0
          c.if-not-stands_in_order.false in
          subst (λ (before : Journal ℕ). OrderSoFar assembly c.add.new.self before) (sym c.note_at-note.ensures)
          (record { known = c.add.ensures.known assembly read orders stands so_far.known; right = (stands, so_far.right) });
      reached =
          λ assembly orders.
          subst (λ (before : Journal ℕ). AreReached assembly c.add.new.self before) (sym c.note_at-note.ensures)
          (c.add.ensures.reached assembly read orders (c.loop-place.invariant.reached assembly orders));
      rows = c.add.ensures.rows ∙ c.loop-place.invariant.rows;
    }

pub returns-clause-kept : goal.returns-clause-kept
returns-clause-kept c =
    λ none assembly orders starts.
    whole_walk (λ journal. EachNote (StandsInOrder assembly) journal) c.args.journal.now.notes c.loop-place.place (omega arith)
    (c.loop-place.invariant.so_far assembly orders starts).right

pub returns-then-not-stands_in_order-clause-named : goal.returns-then-not-stands_in_order-clause-named
returns-then-not-stands_in_order-clause-named c =
    λ assembly terms cores same orders spelled starts.
    let read = at_place c.loop-place.place c.args.journal.now.notes in
    let so_far = c.loop-place.invariant.so_far assembly orders starts in
    let right =
    subst (λ (journal : Journal ℕ). EachNote (StartsRight assembly) journal) c.note_at-note.ensures
    (each_before (StartsRight assembly) (c.loop-place.place + 1) c.args.journal.now.notes starts) in
    let here =
    subst (λ (journal : Journal ℕ). EachNote (λ note before. IsSpelledNote terms note) journal) c.note_at-note.ensures
    (each_before (λ note before. IsSpelledNote terms note) (c.loop-place.place + 1) c.args.journal.now.notes spelled) in
    let knows : KnowsOrder assembly c.loop-place.numbers read =
    record {
      rows = omega (arith, cores, c.loop-place.invariant.rows);
      known = so_far.known;
      reached = c.loop-place.invariant.reached assembly orders;
      entered = entered_as_sent assembly read so_far.right;
      starts = right.1;
    } in
    record {
      note = c.note_at-note.result;
      before = read;
      within = omega arith;
      there = c.note_at-note.ensures;
      kept = so_far.right;
      broken =
          λ stands.
          both_ways c.stands_in_order.result c.if-not-stands_in_order.true
          (c.stands_in_order.ensures.only assembly read terms orders knows same here.0 right.0 stands);
    }
