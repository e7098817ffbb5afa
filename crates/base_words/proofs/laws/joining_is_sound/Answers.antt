use Rattle.base_words.proofs.Joining.{joining_is_sound}
use Rattle.base_words.proofs.laws.joining_is_sound.Goals as goal

pub returns : goal.returns
returns c = joining_is_sound
