use Rattle.std.proofs.Common.{subst}
use Rattle.actor_caller.specs.Sends.{SubmitsTo}
use Rattle.run_runtime.proofs.runtime.Runtime.submit.Goals as goal

pub returns : goal.returns
returns g c = subst (λ view. SubmitsTo 3 c.args.to c.args.order view c.submit.result c.submit.new.self) c.self.view_is c.submit.ensures
