use Rattle.std.proofs.Common.{◌∷◌, sym, ◌∙◌}
use Rattle.fairview_marks.specs.Leads.{are_together}
use Rattle.fairview_lag.specs.Stretches.{begun_of}
use Rattle.fairview_lag.proofs.StretchSteps.{some_if, none_if}
use Rattle.fairview_lag.proofs.stretch.begun_after.Goals as goal

pub returns-then-are_together : goal.returns-then-are_together
returns-then-are_together c =
    λ burst note before knows is.
    some_if (are_together c.args.first c.args.second (note ∷ before)) c.begun_by.result (begun_of burst c.args.first c.args.second (note ∷ before))
    (sym (c.are_together.ensures burst (note ∷ before) knows) ∙ c.if-are_together.true) (c.begun_by.ensures burst note before knows is)

pub returns-else-are_together : goal.returns-else-are_together
returns-else-are_together c =
    λ burst note before knows is.
    none_if (are_together c.args.first c.args.second (note ∷ before)) (begun_of burst c.args.first c.args.second (note ∷ before))
    (sym (c.are_together.ensures burst (note ∷ before) knows) ∙ c.if-are_together.false)
