use Rattle.base_words.proofs.PicksNeverFall.{floor_below}
use Rattle.base_words.proofs.laws.work_is_above_floor.Goals as goal

pub returns : goal.returns
returns c = floor_below
