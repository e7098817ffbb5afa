use Rattle.core_core.proofs.Names.{refl}
use Rattle.core_core.proofs.one_core.Core.end_queue_parks_for.Goals as goal

pub end_parks-requires : goal.end_parks-requires
end_parks-requires g c = c.requires

pub returns-in-Finish-clause-ends : goal.returns-in-Finish-clause-ends
returns-in-Finish-clause-ends g c = rw c.in-Finish.is refl

pub returns-in-Return-clause-ends : goal.returns-in-Return-clause-ends
returns-in-Return-clause-ends g c = rw c.in-Return.is c.end_parks.ensures.ends

pub returns-in-Return-clause-bounded : goal.returns-in-Return-clause-bounded
returns-in-Return-clause-bounded g c = c.end_parks.ensures.bounded
