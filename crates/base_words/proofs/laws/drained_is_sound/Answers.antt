use Rattle.base_words.proofs.GoodJournals.{drained_is_sound}
use Rattle.base_words.proofs.laws.drained_is_sound.Goals as goal

pub returns : goal.returns
returns c = drained_is_sound
