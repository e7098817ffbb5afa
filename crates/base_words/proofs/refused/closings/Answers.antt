use Rattle.base_words.proofs.ClosingsRefused.{closings_refused}
use Rattle.base_words.proofs.refused.closings.Goals as goal

pub returns : goal.returns
returns c = closings_refused
