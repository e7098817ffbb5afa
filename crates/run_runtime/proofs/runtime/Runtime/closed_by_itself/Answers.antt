use Rattle.std.proofs.Common.{◌≡◌, ◌<◌, ◌≤◌, None, subst}
use Rattle.actor_caller.specs.Watching.{IsToldRightly, closing_told, watch_at}
use Rattle.run_runtime.proofs.runtime.Runtime.closed_by_itself.Goals as goal

pub returns-clause-some : goal.returns-clause-some
returns-clause-some g c = subst (λ view. c.args.core < view.desk.cores → c.closed_by_itself.result ≡ closing_told (watch_at c.args.core view.watched)) c.self.view_is c.closed_by_itself.ensures.some

pub returns-clause-rightly : goal.returns-clause-rightly
returns-clause-rightly g c = subst (λ view. c.args.core < view.desk.cores → IsToldRightly (watch_at c.args.core view.watched) c.closed_by_itself.result) c.self.view_is c.closed_by_itself.ensures.rightly

pub returns-clause-none : goal.returns-clause-none
returns-clause-none g c = subst (λ view. view.desk.cores ≤ c.args.core → c.closed_by_itself.result ≡ None) c.self.view_is c.closed_by_itself.ensures.none
