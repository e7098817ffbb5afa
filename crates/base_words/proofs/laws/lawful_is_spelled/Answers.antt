use Rattle.base_words.proofs.Spelled.{lawful_is_spelled}
use Rattle.base_words.proofs.laws.lawful_is_spelled.Goals as goal

pub returns : goal.returns
returns c = lawful_is_spelled
