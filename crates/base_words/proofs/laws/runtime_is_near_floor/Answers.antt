use Rattle.base_words.proofs.Lag.{runtime_is_near_floor}
use Rattle.base_words.proofs.laws.runtime_is_near_floor.Goals as goal

pub returns : goal.returns
returns c = runtime_is_near_floor
