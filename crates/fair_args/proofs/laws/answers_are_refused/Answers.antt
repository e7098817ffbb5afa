use Rattle.fair_args.proofs.Refused.{answers_refused}
use Rattle.fair_args.proofs.laws.answers_are_refused.Goals as goal

pub returns : goal.returns
returns c = answers_refused
