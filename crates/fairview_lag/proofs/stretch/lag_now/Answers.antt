use Rattle.std.proofs.Common.{sym, ◌∙◌}
use Rattle.fairview_marks.specs.Leads.{are_together}
use Rattle.fairview_lag.specs.Lags.{lag}
use Rattle.fairview_lag.specs.Stretches.{begun_of}
use Rattle.fairview_lag.proofs.StretchSteps.{some_told, none_told}
use Rattle.fairview_lag.proofs.stretch.lag_now.Goals as goal

pub returns-in-Some : goal.returns-in-Some
returns-in-Some c =
    λ burst journal knows is.
    some_told (are_together c.args.first c.args.second journal) c.in-Some.begun (begun_of burst c.args.first c.args.second journal) c.lag_since.result
    (lag burst c.args.first c.args.second journal) (sym c.in-Some.is ∙ is) (c.lag_since.ensures burst journal knows)

pub returns-in-None : goal.returns-in-None
returns-in-None c =
    λ burst journal knows is.
    none_told (are_together c.args.first c.args.second journal) (begun_of burst c.args.first c.args.second journal) (lag burst c.args.first c.args.second journal) (sym c.in-None.is ∙ is)
