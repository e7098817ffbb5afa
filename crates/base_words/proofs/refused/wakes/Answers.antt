use Rattle.base_words.proofs.WakesRefused.{wakes_refused}
use Rattle.base_words.proofs.refused.wakes.Goals as goal

pub returns : goal.returns
returns c = wakes_refused
