use Rattle.actor_caller.proofs.WaitedOnce.{submits_once}
use Rattle.actor_caller.proofs.laws.waits_submit_once.Goals as goal

pub returns : goal.returns
returns g c = submits_once
