use Rattle.run_watch.proofs.Closed.{stays-told}
use Rattle.run_watch.proofs.laws.closings_stay_told.Goals as goal

pub returns : goal.returns
returns c = stays-told
