use Rattle.fairview_lag.proofs.LagLaws.{greatest_of_all}
use Rattle.fairview_lag.proofs.laws.greatest_is_of_all.Goals as goal

pub returns : goal.returns
returns c = greatest_of_all
