use Rattle.std.proofs.Common.{◌≡◌, ℕ, ◌<◌, length, sym, subst, arith}
use Rattle.base_words.specs.Journal.{Journal, at_place}
use Rattle.note_facts.specs.Histories.{FitFirst}
use Rattle.note_facts.specs.Limits.{greatest_count}
use Rattle.note_facts.specs.Jobs.{KnowsPast}
use Rattle.note_facts.proofs.FactSteps.{one_more}
use Rattle.note_facts.proofs.Walks.{length-at_place, whole_walk}
use Rattle.note_facts.proofs.histories.History.of.Goals as goal

pub loop-place-preserved : goal.loop-place-preserved
loop-place-preserved c =
    let before = at_place c.loop-place.place c.args.journal.now.notes in
    let short : length before < greatest_count =
    omega (arith, length-at_place c.loop-place.place c.args.journal.now.notes, c.loop-place-test.true, c.len-place-end.type_inv) in (
      rw c.in_ok-push.ensures.items
          (
          one_more c.loop-place.facts.items c.before-in-loop-place.result c.args.journal.now.notes c.loop-place.place c.note_at-note.result before
          c.loop-place.invariant.0 c.note_at-note.ensures (c.before-in-loop-place.ensures before c.loop-place.invariant.1)
          ),
      subst (λ (read : Journal ℕ). KnowsPast c.add.new.self read) (sym c.note_at-note.ensures) (c.in_ok-add.ensures before short c.loop-place.invariant.1),
    )

pub returns : goal.returns
returns c =
    let all : c.loop-place.place ≡ length c.args.journal.now.notes = omega arith in
    record {
      facts =
          subst (λ (count : ℕ). FitFirst c.loop-place.facts.items c.args.journal.now.notes count) all c.loop-place.invariant.0.fit;
      past = whole_walk (λ journal. KnowsPast c.loop-place.past journal) c.args.journal.now.notes c.loop-place.place all c.loop-place.invariant.1;
    }
