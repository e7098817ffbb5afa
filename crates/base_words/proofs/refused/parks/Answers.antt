use Rattle.base_words.proofs.ParksRefused.{parks_refused}
use Rattle.base_words.proofs.refused.parks.Goals as goal

pub returns : goal.returns
returns c = parks_refused
