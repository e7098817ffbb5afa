use Rattle.fairview_lag.proofs.LagLaws.{begins}
use Rattle.fairview_lag.proofs.laws.stretches_are_whole.Goals as goal

pub returns : goal.returns
returns c = begins
