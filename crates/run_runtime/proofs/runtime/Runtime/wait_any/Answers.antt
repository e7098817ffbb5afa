use Rattle.std.proofs.Common.{subst}
use Rattle.link_ends.specs.Fits.{Fits}
use Rattle.actor_caller.specs.Waiting.{WaitsForAny}
use Rattle.run_runtime.proofs.runtime.Runtime.wait_any.Goals as goal

pub returns : goal.returns
returns g c = subst (λ view. WaitsForAny (Fits g.J.Task.meaning) c.args.tickets.now view c.wait_any.result c.wait_any.new.self) c.self.view_is c.wait_any.ensures
