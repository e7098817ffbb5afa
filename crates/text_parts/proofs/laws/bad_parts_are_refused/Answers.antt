use Rattle.text_parts.proofs.ByteLaws.{refused}
use Rattle.text_parts.proofs.laws.bad_parts_are_refused.Goals as goal

pub returns : goal.returns
returns c = refused
