use Rattle.host_text.proofs.Pieces.{joined}
use Rattle.host_text.proofs.laws.pieces_are_joined.Goals as goal

pub returns : goal.returns
returns c = joined
