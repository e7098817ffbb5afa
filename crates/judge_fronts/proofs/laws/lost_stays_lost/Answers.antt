use Rattle.judge_fronts.proofs.Going.{lost_stays}
use Rattle.judge_fronts.proofs.laws.lost_stays_lost.Goals as goal

pub returns : goal.returns
returns c = lost_stays
