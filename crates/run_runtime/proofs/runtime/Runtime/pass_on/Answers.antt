use Rattle.std.proofs.Common.{subst}
use Rattle.actor_caller.specs.Passing.{PassesHere}
use Rattle.run_runtime.proofs.runtime.Runtime.pass_on.Goals as goal

pub returns : goal.returns
returns g c = subst (λ view. PassesHere view c.pass_on.result c.pass_on.new.self) c.self.view_is c.pass_on.ensures
