use Rattle.std.proofs.Common.{ℕ, ◌<◌, length, sym, subst, arith}
use Rattle.base_words.specs.Journal.{Journal, at_place}
use Rattle.note_facts.specs.Accounts.{greatest_count}
use Rattle.note_stats.specs.Walks.{KnowsSums}
use Rattle.note_stats.proofs.Gains.{length-at_place, same_place}
use Rattle.note_stats.proofs.sums.Sums.read.Goals as goal

pub loop-place-preserved : goal.loop-place-preserved
loop-place-preserved c =
    let notes = c.args.journal.now.notes in
    let read : length (at_place c.loop-place.place notes) < greatest_count =
    omega (arith, length-at_place c.loop-place.place notes, c.loop-place-test.true, c.min-end.ensures, c.ranges.to.fits) in
    record {
      within = omega (arith, c.loop-place-test.true, c.min-end.ensures);
      known =
          λ burst knows.
          subst (λ (before : Journal ℕ). KnowsSums burst c.add.new.self before) (sym c.note_at-note.ensures)
          (c.in_ok-add.ensures.knows burst _ read (c.loop-place.invariant.known burst knows));
    }

pub returns-clause-knows : goal.returns-clause-knows
returns-clause-knows c =
    λ burst knows.
    subst (λ (before : Journal ℕ). KnowsSums burst c.loop-place.self before)
    (same_place c.loop-place.place c.args.to c.args.journal.now.notes (omega (arith, c.loop-place-test.false, c.min-end.ensures)) c.loop-place.invariant.within)
    (c.loop-place.invariant.known burst knows)
