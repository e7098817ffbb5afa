use Rattle.base_words.proofs.TurnsRefused.{turns_refused}
use Rattle.base_words.proofs.refused.turns.Goals as goal

pub returns : goal.returns
returns c = turns_refused
