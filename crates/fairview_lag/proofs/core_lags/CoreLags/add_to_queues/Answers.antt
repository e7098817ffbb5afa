use Rattle.std.proofs.lemmas.Result.{on_ok_weaker}
use Rattle.fairview_lag.proofs.core_lags.CoreLags.add_to_queues.Goals as goal

pub returns-clause-all : goal.returns-clause-all
returns-clause-all c = on_ok_weaker c.add.result (λ _. c.in_ok-push_idle.ensures.all) c.add.ensures.knows
