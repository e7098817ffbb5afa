use Rattle.link_ends.specs.Fits.{Fits}
use Rattle.actor_caller.proofs.WaitedOnce.{redeems_once}
use Rattle.actor_caller.proofs.laws.waits_redeem_once.Goals as goal

pub returns : goal.returns
returns g c = redeems_once (Fits g.J.Task.meaning)
