use Rattle.base_words.proofs.HandBacks.{closing_hands_back}
use Rattle.base_words.proofs.laws.closing_hands_back.Goals as goal

pub returns : goal.returns
returns c = closing_hands_back
