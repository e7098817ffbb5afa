use Rattle.base_words.proofs.StepsRefused.{steps_refused}
use Rattle.base_words.proofs.refused.steps.Goals as goal

pub returns : goal.returns
returns c = steps_refused
