use Rattle.base_words.proofs.CollectsRefused.{collects_refused}
use Rattle.base_words.proofs.refused.collects.Goals as goal

pub returns : goal.returns
returns c = collects_refused
