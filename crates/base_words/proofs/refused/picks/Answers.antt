use Rattle.base_words.proofs.PicksRefused.{picks_refused}
use Rattle.base_words.proofs.refused.picks.Goals as goal

pub returns : goal.returns
returns c = picks_refused
