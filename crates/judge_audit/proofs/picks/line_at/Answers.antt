use Rattle.std.proofs.Common.{inl, inr, refl, sym, ◌∙◌, ap}
use Rattle.std.specs.Prelude.{is_some}
use Rattle.std.proofs.lemmas.Bool.{both_ways}
use Rattle.judge_audit.proofs.PickSteps.{none_left}
use Rattle.judge_audit.proofs.picks.line_at.Goals as goal

pub returns-then-is_followed : goal.returns-then-is_followed
returns-then-is_followed c = λ burst before knows facts. inr (refl, inr (c.is_followed.ensures.right burst before knows facts c.if-is_followed.true))

pub returns-then-is_some : goal.returns-then-is_some
returns-then-is_some c =
    λ burst before knows facts.
    inl (
      refl,
      ap is_some knows.picked ∙ (sym c.is_some.ensures ∙ c.if-is_some.true),
      λ follows. both_ways c.is_followed.result c.if-is_followed.false (c.is_followed.ensures.only burst before knows facts follows),
    )

pub returns-else-is_some : goal.returns-else-is_some
returns-else-is_some c =
    λ burst before knows facts.
    inr (refl, inl (knows.picked ∙ none_left c.args.turns.now.picked (sym c.is_some.ensures ∙ c.if-is_some.false)))
