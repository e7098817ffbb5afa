use Rattle.std.proofs.Common.{ℕ, ◌+◌, ◌<◌, length, sym, ap, subst, ◌∙◌, arith}
use Rattle.std.specs.Prelude.{is_some}
use Rattle.std.proofs.lemmas.Bool.{both_ways, true≢false}
use Rattle.base_words.specs.Clauses.{PicksRight}
use Rattle.base_words.specs.Journal.{Journal, EachNote, at_place}
use Rattle.base_words.specs.Spelled.{IsSpelledNote}
use Rattle.note_facts.specs.Accounts.{greatest_count}
use Rattle.note_facts.proofs.FirstFaults.{each_before}
use Rattle.note_facts.proofs.Walks.{at_start, length-at_place, whole_walk}
use Rattle.judge_audit.specs.Picks.{PicksSoFar}
use Rattle.judge_audit.proofs.PickSteps.{none_left}
use Rattle.judge_audit.proofs.Bounds.{are_below}
use Rattle.judge_audit.proofs.PickLines.{line_named, last_named}
use Rattle.judge_audit.proofs.picks.picks_fault.Goals as goal

pub loop-place-init : goal.loop-place-init
loop-place-init c =
    subst (λ (before : Journal ℕ). PicksSoFar c.args.burst c.new-turns.result before) (sym (at_start c.args.journal.now.notes))
    (record { known = c.new-turns.ensures c.args.burst; right = tt })

pub loop-place-preserved : goal.loop-place-preserved
loop-place-preserved c =
    let read : length (at_place c.loop-place.place c.args.journal.now.notes) < greatest_count =
    omega (arith, length-at_place c.loop-place.place c.args.journal.now.notes, c.loop-place-test.true, c.len-place-end.type_inv) in
    let facts = c.fact-fact.ensures c.args.journal.now.notes _ _ c.requires (omega arith) c.note_at-note.ensures in
    let right = c.picks_right.ensures.right _ c.loop-place.invariant.known facts c.if-not-picks_right.false in
    subst (λ (before : Journal ℕ). PicksSoFar c.args.burst c.add.new.self before) (sym c.note_at-note.ensures)
    (
    record {
      known = c.add.ensures _ read facts right.1 right.0 c.loop-place.invariant.known;
      right = (right.0, c.loop-place.invariant.right);
    }
    )

pub returns-clause-kept : goal.returns-clause-kept
returns-clause-kept c =
    λ none.
    let whole =
    whole_walk (λ journal. PicksSoFar c.args.burst c.loop-place.turns journal) c.args.journal.now.notes c.loop-place.place (omega arith) c.loop-place.invariant in
    (whole.right, whole.known.picked ∙ none_left c.loop-place.turns.picked (sym c.is_some.ensures ∙ c.if-is_some.false))

pub returns-then-not-picks_right-clause-only : goal.returns-then-not-picks_right-clause-only
returns-then-not-picks_right-clause-only c =
    λ terms spelled each last.
    let read = at_place c.loop-place.place c.args.journal.now.notes in
    let short : length read < greatest_count =
    omega (arith, length-at_place c.loop-place.place c.args.journal.now.notes, c.loop-place-test.true, c.len-place-end.type_inv) in
    let right =
    subst (λ (journal : Journal ℕ). EachNote (PicksRight c.args.burst) journal) c.note_at-note.ensures
    (each_before (PicksRight c.args.burst) (c.loop-place.place + 1) c.args.journal.now.notes each) in
    let facts = c.fact-fact.ensures c.args.journal.now.notes c.note_at-note.result read c.requires (omega arith) c.note_at-note.ensures in
    let written = each_before (λ note before. IsSpelledNote terms note) c.loop-place.place c.args.journal.now.notes spelled in
    absurd
    (
    both_ways c.picks_right.result c.if-not-picks_right.true
    (c.picks_right.ensures.only read c.loop-place.invariant.known facts (are_below terms c.args.burst read written right.1 short) right.1 right.0)
    )

pub returns-then-is_some-clause-only : goal.returns-then-is_some-clause-only
returns-then-is_some-clause-only c =
    λ terms spelled each last.
    let whole =
    whole_walk (λ journal. PicksSoFar c.args.burst c.loop-place.turns journal) c.args.journal.now.notes c.loop-place.place (omega arith) c.loop-place.invariant in
    absurd (true≢false (sym (sym c.is_some.ensures ∙ c.if-is_some.true) ∙ ap is_some (sym whole.known.picked ∙ last)))

pub returns-then-not-picks_right-clause-named : goal.returns-then-not-picks_right-clause-named
returns-then-not-picks_right-clause-named c =
    λ terms spelled.
    let read = at_place c.loop-place.place c.args.journal.now.notes in
    let short : length read < greatest_count =
    omega (arith, length-at_place c.loop-place.place c.args.journal.now.notes, c.loop-place-test.true, c.len-place-end.type_inv) in
    let written = each_before (λ note before. IsSpelledNote terms note) c.loop-place.place c.args.journal.now.notes spelled in
    let facts = c.fact-fact.ensures c.args.journal.now.notes c.note_at-note.result read c.requires (omega arith) c.note_at-note.ensures in
    let so_far = c.loop-place.invariant in
    line_named c.args.burst c.args.journal.now.notes c.loop-place.place c.line_at.result c.note_at-note.result (omega arith) c.note_at-note.ensures so_far.right
    (
    λ right.
    both_ways c.picks_right.result c.if-not-picks_right.true
    (c.picks_right.ensures.only read so_far.known facts (are_below terms c.args.burst read written so_far.right short) so_far.right right)
    )
    (c.line_at.ensures c.args.burst read so_far.known facts)

pub returns-then-is_some-clause-named : goal.returns-then-is_some-clause-named
returns-then-is_some-clause-named c =
    λ terms spelled.
    let whole =
    whole_walk (λ journal. PicksSoFar c.args.burst c.loop-place.turns journal) c.args.journal.now.notes c.loop-place.place (omega arith) c.loop-place.invariant in
    last_named c.args.burst c.args.journal.now.notes _ c.len.ensures.value whole.right (ap is_some whole.known.picked ∙ (sym c.is_some.ensures ∙ c.if-is_some.true))
