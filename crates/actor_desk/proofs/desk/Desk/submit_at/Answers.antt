use Rattle.std.proofs.Common.{get_or, ap}
use Rattle.actor_desk.proofs.Cores.{at-core, set-core, AtCore-set}
use Rattle.actor_desk.proofs.desk.Desk.submit_at.Goals as goal

pub submit-requires-clause-lane : goal.submit-requires-clause-lane
submit-requires-clause-lane g c = at-core c.self.view_is c.requires.ends c.requires.core c.index_mut-lane.ensures.value (ap (get_or c.args.ends.now c.args.core) c.index-ends-core.is)

pub returns-clause-ends : goal.returns-clause-ends
returns-clause-ends g c = set-core c.self.view_is c.requires.ends c.args.core c.submit.new.self c.submit.new.end c.submit.ensures.lane

pub returns-clause-submits : goal.returns-clause-submits
returns-clause-submits g c =
    AtCore-set c.self.view_is c.requires.ends c.requires.core c.index_mut-lane.ensures.value (ap (get_or c.args.ends.now c.args.core) c.index-ends-core.is) c.submit.new.self c.submit.new.end
    (c.submit.ensures.untouched, c.submit.ensures.credited, c.submit.ensures.sends, c.submit.ensures.accepted, c.submit.ensures.refused)
