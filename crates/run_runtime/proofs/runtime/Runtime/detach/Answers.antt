use Rattle.std.proofs.Common.{subst}
use Rattle.actor_caller.specs.Tickets.{DetachesHere}
use Rattle.run_runtime.proofs.runtime.Runtime.detach.Goals as goal

pub returns : goal.returns
returns g c = subst (λ view. DetachesHere c.args.ticket view c.detach.result c.detach.new.self) c.self.view_is c.detach.ensures
