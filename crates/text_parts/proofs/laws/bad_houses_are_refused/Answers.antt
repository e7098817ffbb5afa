use Rattle.text_parts.proofs.HousesRefused.{refused}
use Rattle.text_parts.proofs.laws.bad_houses_are_refused.Goals as goal

pub returns : goal.returns
returns c = refused
