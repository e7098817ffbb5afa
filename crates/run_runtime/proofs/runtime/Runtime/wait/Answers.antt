use Rattle.std.proofs.Common.{subst}
use Rattle.link_ends.specs.Fits.{Fits}
use Rattle.actor_caller.specs.Waiting.{RedeemsAtLast}
use Rattle.run_runtime.proofs.runtime.Runtime.wait.Goals as goal

pub returns : goal.returns
returns g c = subst (λ view. RedeemsAtLast (Fits g.J.Task.meaning) c.args.ticket view c.wait.result c.wait.new.self) c.self.view_is c.wait.ensures
