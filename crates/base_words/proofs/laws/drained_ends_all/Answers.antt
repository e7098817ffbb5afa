use Rattle.base_words.proofs.EndedOnce.{drained_ends_all}
use Rattle.base_words.proofs.laws.drained_ends_all.Goals as goal

pub returns : goal.returns
returns c = drained_ends_all
