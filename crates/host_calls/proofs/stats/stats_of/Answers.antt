use Rattle.host_calls.proofs.stats.stats_of.Goals as goal

pub returns : goal.returns
returns c = λ few. c.stats_at.ensures _ _ (c.stats-queues.ensures.queues few)
