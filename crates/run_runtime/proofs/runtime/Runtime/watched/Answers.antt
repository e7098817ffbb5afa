use Rattle.std.proofs.Common.{◌≡◌, ◌<◌, ◌≤◌, None, subst}
use Rattle.std.specs.Prelude.{IsSomeAnd}
use Rattle.actor_caller.specs.Watching.{watch_at}
use Rattle.run_runtime.proofs.runtime.Runtime.watched.Goals as goal

pub returns-clause-some : goal.returns-clause-some
returns-clause-some g c = subst (λ view. c.args.core < view.desk.cores → IsSomeAnd c.watched.result (λ watcher. watcher.now ≡ watch_at c.args.core view.watched)) c.self.view_is c.watched.ensures.some

pub returns-clause-none : goal.returns-clause-none
returns-clause-none g c = subst (λ view. view.desk.cores ≤ c.args.core → c.watched.result ≡ None) c.self.view_is c.watched.ensures.none
