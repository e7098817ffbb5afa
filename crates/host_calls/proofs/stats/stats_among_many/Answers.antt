use Rattle.host_calls.proofs.stats.stats_among_many.Goals as goal

pub returns : goal.returns
returns c = λ few. c.stats_at.ensures _ _ (c.stats-queues.ensures.queues few)
