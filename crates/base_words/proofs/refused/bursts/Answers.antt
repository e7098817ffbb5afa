use Rattle.base_words.proofs.BurstsRefused.{bursts_refused}
use Rattle.base_words.proofs.refused.bursts.Goals as goal

pub returns : goal.returns
returns c = bursts_refused
