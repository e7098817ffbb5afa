use Rattle.base_words.proofs.Joining.{joined_are_spelled}
use Rattle.base_words.proofs.laws.joined_are_spelled.Goals as goal

pub returns : goal.returns
returns c = joined_are_spelled
