use Rattle.core_timeline.proofs.FrontKeys.{keys-free}
use Rattle.core_timeline.proofs.front.places.Places.free.Goals as goal

pub returns-clause-keys : goal.returns-clause-keys
returns-clause-keys g c = keys-free c.sealed.result.items c.in_ok-nodes.nodes.items c.in_ok-nodes.ensures.free
