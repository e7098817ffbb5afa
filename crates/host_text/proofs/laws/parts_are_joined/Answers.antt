use Rattle.host_text.proofs.Joined.{joined}
use Rattle.host_text.proofs.laws.parts_are_joined.Goals as goal

pub returns : goal.returns
returns c = joined
