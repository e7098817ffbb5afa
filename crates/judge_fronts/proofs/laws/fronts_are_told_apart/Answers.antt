use Rattle.judge_fronts.proofs.LostFronts.{fronts_lost}
use Rattle.judge_fronts.proofs.OpenFronts.{fronts_open}
use Rattle.judge_fronts.proofs.laws.fronts_are_told_apart.Goals as goal

pub returns : goal.returns
returns c = record { lost = fronts_lost; still_open = fronts_open c.drained_is_sound.ensures.finishing }
