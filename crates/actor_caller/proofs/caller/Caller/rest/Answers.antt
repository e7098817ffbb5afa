use Rattle.actor_caller.proofs.InARow.{looks_of, one_look}
use Rattle.actor_caller.proofs.caller.Caller.rest.Goals as goal

pub returns : goal.returns
returns g c = one_look c.args.self.now c.collects_soon.new.self c.rest_on-slept.new.self (looks_of c.args.self.now c.collects_soon.new.self c.collects_soon.ensures.looks) c.rest_on-slept.ensures.looks.collects
