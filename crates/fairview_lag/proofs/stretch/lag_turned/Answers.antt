use Rattle.std.proofs.Common.{sym, ◌∙◌}
use Rattle.base_words.specs.Bursts.{has_bursts}
use Rattle.fairview_lag.specs.Lags.{lag_of}
use Rattle.fairview_lag.proofs.StretchSteps.{told_while, none_unless}
use Rattle.fairview_lag.proofs.stretch.lag_turned.Goals as goal

pub returns-then-has_bursts : goal.returns-then-has_bursts
returns-then-has_bursts c =
    λ burst journal knows is.
    told_while (has_bursts burst) c.lag_now.result (lag_of burst c.args.first c.args.second journal) (sym (c.has_bursts.ensures burst journal knows) ∙ c.if-has_bursts.true)
    (c.lag_now.ensures burst journal knows is)

pub returns-else-has_bursts : goal.returns-else-has_bursts
returns-else-has_bursts c =
    λ burst journal knows is.
    none_unless (has_bursts burst) (lag_of burst c.args.first c.args.second journal) (sym (c.has_bursts.ensures burst journal knows) ∙ c.if-has_bursts.false)
