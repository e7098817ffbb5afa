use Rattle.base_words.proofs.OutcomesRefused.{outcomes_refused}
use Rattle.base_words.proofs.refused.outcomes.Goals as goal

pub returns : goal.returns
returns c = outcomes_refused
