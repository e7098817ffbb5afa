use Rattle.base_words.specs.declared.note.Note.TheVariants.{Shut}
use Rattle.judge_fronts.proofs.Names.{at_place, inl, inr, IsWrongAlone, Journal, RespectsCloses, subst, sym, both_ways, ℕ}
use Rattle.judge_fronts.proofs.certain.is_shut_told.Goals as goal

pub returns-clause-right : goal.returns-clause-right
returns-clause-right c = λ yes.
    inr
    (
    subst (λ (notes : Journal ℕ). IsWrongAlone (λ others. RespectsCloses others c.args.core) (Shut c.args.sender c.args.count) (at_place c.args.before notes))
    c.journal.ensures (c.is_wrong_shut.ensures.right yes c.args.core c.args.count)
    )

pub returns-clause-only : goal.returns-clause-only
returns-clause-only c = λ told.
    elim told [
      | inl few ↦ absurd (both_ways _ c.if-are_sent.false (c.are_sent.ensures.only few))
      | inr wrong ↦
          c.is_wrong_shut.ensures.only c.args.core c.args.count
          (
          subst (λ (notes : Journal ℕ). IsWrongAlone (λ others. RespectsCloses others c.args.core) (Shut c.args.sender c.args.count) (at_place c.args.before notes))
          (sym c.journal.ensures) wrong
          )
    ]
