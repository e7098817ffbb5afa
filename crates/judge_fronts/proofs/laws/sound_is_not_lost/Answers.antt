use Rattle.judge_fronts.proofs.Going.{sound_not_lost}
use Rattle.judge_fronts.proofs.laws.sound_is_not_lost.Goals as goal

pub returns : goal.returns
returns c = sound_not_lost
