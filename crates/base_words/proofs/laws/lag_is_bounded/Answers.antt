use Rattle.base_words.proofs.Lag.{lag_is_bounded}
use Rattle.base_words.proofs.laws.lag_is_bounded.Goals as goal

pub returns : goal.returns
returns c = lag_is_bounded
