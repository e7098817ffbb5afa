use Rattle.base_words.specs.declared.note.Note.TheVariants.{Resume}
use Rattle.judge_fronts.proofs.Names.{at_place, inl, inr, IsWrongAlone, Journal, StartsRight, subst, sym, true≢false, ℕ, ◌∙◌}
use Rattle.judge_fronts.proofs.certain.is_resume_told.Goals as goal

pub returns-clause-right : goal.returns-clause-right
returns-clause-right c = λ yes.
    inr
    (
    subst (λ (notes : Journal ℕ). IsWrongAlone StartsRight (Resume c.args.name.now) (at_place c.args.before notes)) c.journal.ensures
    (c.is_wrong_resume.ensures.right yes)
    )

pub returns-clause-only : goal.returns-clause-only
returns-clause-only c = λ told.
    elim told [
      | inl has ↦ absurd (true≢false (sym has ∙ (sym c.has_order.ensures ∙ c.if-has_order.false)))
      | inr wrong ↦
          c.is_wrong_resume.ensures.only
          (
          subst (λ (notes : Journal ℕ). IsWrongAlone StartsRight (Resume c.args.name.now) (at_place c.args.before notes)) (sym c.journal.ensures) wrong
          )
    ]
