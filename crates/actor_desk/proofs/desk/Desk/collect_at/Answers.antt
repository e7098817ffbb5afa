use Rattle.std.proofs.Common.{get_or, ap}
use Rattle.actor_desk.proofs.Cores.{at-core, set-core, AtCore-set}
use Rattle.actor_desk.proofs.desk.Desk.collect_at.Goals as goal

pub collect-requires : goal.collect-requires
collect-requires g c = at-core c.self.view_is c.requires.ends c.requires.core c.index_mut-lane.ensures.value (ap (get_or c.args.ends.now c.args.core) c.index-ends-core.is)

pub returns-clause-ends : goal.returns-clause-ends
returns-clause-ends g c = set-core c.self.view_is c.requires.ends c.args.core c.collect.new.self c.collect.new.end c.collect.ensures.lane

pub returns-clause-collects : goal.returns-clause-collects
returns-clause-collects g c =
    AtCore-set c.self.view_is c.requires.ends c.requires.core c.index_mut-lane.ensures.value (ap (get_or c.args.ends.now c.args.core) c.index-ends-core.is) c.collect.new.self c.collect.new.end
    (c.collect.ensures.untouched, c.collect.ensures.collects)
