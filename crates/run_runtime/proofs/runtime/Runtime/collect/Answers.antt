use Rattle.std.proofs.Common.{subst}
use Rattle.actor_caller.specs.Tickets.{Collects}
use Rattle.run_runtime.proofs.runtime.Runtime.collect.Goals as goal

pub returns : goal.returns
returns g c = subst (λ view. Collects c.args.core view c.collect.result c.collect.new.self) c.self.view_is c.collect.ensures
