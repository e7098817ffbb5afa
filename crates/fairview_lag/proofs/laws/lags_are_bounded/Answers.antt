use Rattle.fairview_lag.proofs.LagLaws.{lags_within}
use Rattle.fairview_lag.proofs.laws.lags_are_bounded.Goals as goal

pub returns : goal.returns
returns c = lags_within
