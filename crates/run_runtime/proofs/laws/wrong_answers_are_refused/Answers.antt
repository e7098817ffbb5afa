use Rattle.run_runtime.proofs.WrongAnswers.{wrong_answers_refused}
use Rattle.run_runtime.proofs.laws.wrong_answers_are_refused.Goals as goal

pub returns : goal.returns
returns g c = wrong_answers_refused g.J.Task.meaning
