use Rattle.run_runtime.proofs.PollsOwed.{told_polls_owed}
use Rattle.run_runtime.proofs.laws.told_polls_are_owed.Goals as goal

pub returns : goal.returns
returns g c = told_polls_owed g.J.Task.meaning
