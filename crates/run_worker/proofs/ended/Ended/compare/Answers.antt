use Rattle.run_worker.proofs.Names.{grows_along, subst}
use Rattle.run_watch.specs.Growth.{Grows}
use Rattle.run_worker.proofs.ended.Ended.compare.Goals as goal

pub returns-clause-grows : goal.returns-clause-grows
returns-clause-grows g c =
    subst (λ view. Grows c.args.watcher.now.notes view.linked.recorded.journal.notes) c.self.view_is
    (grows_along c.args.watcher.now.notes c.self.inside.publisher.notes c.self.inside.seat.recorded.journal.notes c.compare.ensures.grows c.self.invariant.shows.is_shown.grows)
