use Rattle.host_text.proofs.BytesPieces.{follow_on}
use Rattle.host_text.proofs.laws.bytes_follow.Goals as goal

pub returns : goal.returns
returns c = follow_on
