use Rattle.judge_parts.proofs.HousesRefused.{houses_refused}
use Rattle.judge_parts.proofs.laws.bad_sources_are_refused.Goals as goal

pub returns : goal.returns
returns c = houses_refused
