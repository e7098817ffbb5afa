use Rattle.actor_caller.proofs.Closing.{closed_stays}
use Rattle.actor_caller.proofs.laws.closed_stays_closed.Goals as goal

pub returns : goal.returns
returns g c = closed_stays
