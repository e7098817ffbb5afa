use Rattle.fairview_lag.proofs.LagsRefused.{refused}
use Rattle.fairview_lag.proofs.laws.bad_lags_are_refused.Goals as goal

pub returns : goal.returns
returns c = refused
