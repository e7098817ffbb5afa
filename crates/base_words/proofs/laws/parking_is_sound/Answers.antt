use Rattle.base_words.proofs.GoodParks.{parking_is_sound}
use Rattle.base_words.proofs.laws.parking_is_sound.Goals as goal

pub returns : goal.returns
returns c = parking_is_sound
