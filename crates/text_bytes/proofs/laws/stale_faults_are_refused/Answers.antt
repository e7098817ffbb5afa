use Rattle.text_bytes.proofs.BadLemmas.{stale_refused}
use Rattle.text_bytes.proofs.laws.stale_faults_are_refused.Goals as goal

pub returns : goal.returns
returns c = stale_refused
