use Rattle.base_words.proofs.StartsOnce.{starts_right}
use Rattle.base_words.proofs.laws.starts_once.Goals as goal

pub returns : goal.returns
returns c = starts_right
