use Rattle.actor_core.specs.OwedPolls.{seen_by}
use Rattle.actor_core.proofs.ScriptPolls.{polled_by_words}
use Rattle.actor_core.proofs.laws.script_polls_are_words.Goals as goal

pub returns : goal.returns
returns g c ends terms queue sent name time step before is its = polled_by_words terms (seen_by g.O.OutEnd.out ends) queue sent name time step before its is
