use Rattle.judge_audit.proofs.Names.{arith, below_more, collected_outcomes, CollectionsOff, given_outcomes, IsLeast, IsPrefix, Journal, journal_of, names_of, refl, subst, ℕ, ◌≡◌}
use Rattle.judge_audit.proofs.ToldNames.{none_off, collected_at_place}
use Rattle.judge_audit.proofs.LeastLines.{prefix_least}
use Rattle.judge_audit.proofs.LinksOff.{next_collected}
use Rattle.judge_audit.proofs.places.collections_line.Goals as goal

pub loop-core-init : goal.loop-core-init
loop-core-init c = record {
  kept = λ none core within. absurd (omega (arith, within));
  only = λ whole. refl;
  least = λ line off. absurd (omega (arith, off.few));
}

pub loop-core-preserved : goal.loop-core-preserved
loop-core-preserved c = record {
  kept =
      λ none.
      let both = c.first_line-line.ensures.kept none in
      below_more
      (
      λ (core : ℕ).
      IsPrefix (names_of (collected_outcomes core (journal_of c.args.sender c.args.assembly.now)))
      (names_of (given_outcomes c.args.sender (journal_of core c.args.assembly.now)))
      )
      c.loop-core.core (c.loop-core.invariant.kept both.0)
      (rw (c.journal-collected.ensures, c.journal-given.ensures) at (c.collections_fault-fault.ensures.kept both.1));
  only =
      λ whole.
      c.first_line-line.ensures.only (c.loop-core.invariant.only whole)
      (
      none_off (λ (notes : Journal ℕ). names_of (collected_outcomes c.loop-core.core notes)) (collected_at_place c.loop-core.core)
      (journal_of c.args.sender c.args.assembly.now) _ c.collections_fault-fault.result
      (rw (c.journal-collected.ensures, c.journal-given.ensures) at c.collections_fault-fault.ensures.named)
      (whole c.loop-core.core (omega arith))
      );
  least =
      rw c.first_line-line.ensures.value
      (
      next_collected c.args.assembly.now c.args.sender c.loop-core.core c.loop-core.line c.collections_fault-fault.result c.loop-core.invariant.least
      (
      prefix_least (λ (notes : Journal ℕ). names_of (collected_outcomes c.loop-core.core notes)) (collected_at_place c.loop-core.core)
      (journal_of c.args.sender c.args.assembly.now) (names_of (given_outcomes c.args.sender (journal_of c.loop-core.core c.args.assembly.now)))
      c.collections_fault-fault.result (rw (c.journal-collected.ensures, c.journal-given.ensures) at c.collections_fault-fault.ensures.kept)
      (rw (c.journal-collected.ensures, c.journal-given.ensures) at c.collections_fault-fault.ensures.named)
      )
      );
}

pub returns : goal.returns
returns c =
    let all : c.loop-core.core ≡ c.args.assembly.now.cores = omega arith in
    record {
      kept = λ none core within. c.loop-core.invariant.kept none core (omega arith);
      only = c.loop-core.invariant.only;
      least =
          subst (λ (count : ℕ). IsLeast (CollectionsOff c.args.assembly.now c.args.sender count) c.loop-core.line) all c.loop-core.invariant.least;
    }
