use Rattle.run_runtime.proofs.PollsOwed.{unowed_polls_refused}
use Rattle.run_runtime.proofs.laws.unowed_polls_are_refused.Goals as goal

pub returns : goal.returns
returns g c = unowed_polls_refused g.J.Task.meaning
