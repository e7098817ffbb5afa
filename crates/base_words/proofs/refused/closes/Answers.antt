use Rattle.base_words.proofs.ClosesRefused.{closes_refused}
use Rattle.base_words.proofs.refused.closes.Goals as goal

pub returns : goal.returns
returns c = closes_refused
