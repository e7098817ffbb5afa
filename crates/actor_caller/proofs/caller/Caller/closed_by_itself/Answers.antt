use Rattle.actor_caller.proofs.caller.Caller.closed_by_itself.Goals as goal

pub returns-in_err-watcher-clause-some : goal.returns-in_err-watcher-clause-some
returns-in_err-watcher-clause-some g c there = absurd (c.in_err-watcher.ensures.some there)
