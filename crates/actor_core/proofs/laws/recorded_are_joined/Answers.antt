use Rattle.actor_core.proofs.Together.{together_joined}
use Rattle.actor_core.proofs.laws.recorded_are_joined.Goals as goal

pub returns : goal.returns
returns g c cores cap burst desk core out credited inward assembly are is = together_joined cores cap burst desk core out credited inward assembly are is
