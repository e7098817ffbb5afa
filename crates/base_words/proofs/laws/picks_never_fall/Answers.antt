use Rattle.base_words.proofs.PicksNeverFall.{picks_never_fall}
use Rattle.base_words.proofs.laws.picks_never_fall.Goals as goal

pub returns : goal.returns
returns c = picks_never_fall
