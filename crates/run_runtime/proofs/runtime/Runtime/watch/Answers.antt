use Rattle.std.proofs.Common.{◌≡◌, ◌<◌, ◌≤◌, false, subst}
use Rattle.actor_caller.specs.Watching.{Watches}
use Rattle.run_runtime.proofs.runtime.Runtime.watch.Goals as goal

pub returns-clause-watches : goal.returns-clause-watches
returns-clause-watches g c = subst (λ view. c.args.core < view.desk.cores → Watches c.args.core view c.watch.result c.watch.new.self) c.self.view_is c.watch.ensures.watches

pub returns-clause-missing : goal.returns-clause-missing
returns-clause-missing g c = subst (λ view. view.desk.cores ≤ c.args.core → (c.watch.result ≡ false) × (c.watch.new.self ≡ view)) c.self.view_is c.watch.ensures.missing
