use Rattle.model_laws.proofs.KeptLists.{happens_keep}
use Rattle.model_laws.proofs.events_keep_lists.Goals as goal

pub returns : goal.returns
returns g c = happens_keep g.J.Task.meaning
