use Rattle.std.proofs.Common.{subst}
use Rattle.actor_caller.specs.Waiting.{SubmitsAtLast}
use Rattle.run_runtime.proofs.runtime.Runtime.submit_wait.Goals as goal

pub returns : goal.returns
returns g c = subst (λ view. SubmitsAtLast 3 c.args.to c.args.order view c.submit_wait.result c.submit_wait.new.self) c.self.view_is c.submit_wait.ensures
