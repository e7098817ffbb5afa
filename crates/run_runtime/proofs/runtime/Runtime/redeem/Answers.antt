use Rattle.std.proofs.Common.{subst}
use Rattle.link_ends.specs.Fits.{Fits}
use Rattle.actor_caller.specs.Tickets.{RedeemsHere}
use Rattle.run_runtime.proofs.runtime.Runtime.redeem.Goals as goal

pub returns : goal.returns
returns g c = subst (λ view. RedeemsHere (Fits g.J.Task.meaning) c.args.ticket view c.redeem.result c.redeem.new.self) c.self.view_is c.redeem.ensures
