use Rattle.fairview_lag.proofs.LagLaws.{stretch}
use Rattle.fairview_lag.proofs.laws.stretches_keep_work.Goals as goal

pub returns : goal.returns
returns c = stretch
