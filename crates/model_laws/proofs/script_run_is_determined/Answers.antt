use Rattle.model_laws.proofs.DeterminedScripts.{script_run_once}
use Rattle.model_laws.proofs.script_run_is_determined.Goals as goal

pub returns : goal.returns
returns c = script_run_once
