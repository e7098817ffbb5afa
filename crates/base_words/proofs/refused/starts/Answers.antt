use Rattle.base_words.proofs.StartsRefused.{starts_refused}
use Rattle.base_words.proofs.refused.starts.Goals as goal

pub returns : goal.returns
returns c = starts_refused
