use Rattle.run_watch.proofs.NeverFalling.{numbers_never_fall}
use Rattle.run_watch.proofs.laws.numbers_never_fall.Goals as goal

pub returns : goal.returns
returns c = numbers_never_fall
