use Rattle.model_laws.proofs.BurstRow.{turn_of_polls}
use Rattle.model_laws.proofs.a_turn_has_several_polls.Goals as goal

pub returns : goal.returns
returns c = turn_of_polls
