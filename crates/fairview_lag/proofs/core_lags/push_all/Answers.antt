use Rattle.std.proofs.Common.{◌∙◌}
use Rattle.fairview_lag.proofs.core_lags.push_all.Goals as goal

pub returns-in_err-push_told-clause-front : goal.returns-in_err-push_told-clause-front
returns-in_err-push_told-clause-front c = (_, c.in_err-push_told.ensures.refused ∙ c.loop-pair.invariant)

pub returns-clause-front : goal.returns-clause-front
returns-clause-front c = (_, c.loop-pair.invariant)
