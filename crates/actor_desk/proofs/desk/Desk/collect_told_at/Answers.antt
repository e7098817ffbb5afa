use Rattle.std.proofs.Common.{get_or, ap}
use Rattle.actor_desk.proofs.Cores.{at-core, set-core, AtCore-set}
use Rattle.actor_desk.proofs.desk.Desk.collect_told_at.Goals as goal

pub collect_told-requires : goal.collect_told-requires
collect_told-requires g c = at-core c.self.view_is c.requires.ends c.requires.core c.index_mut-lane.ensures.value (ap (get_or c.args.ends.now c.args.core) c.index-ends-core.is)

pub returns-clause-ends : goal.returns-clause-ends
returns-clause-ends g c = set-core c.self.view_is c.requires.ends c.args.core c.collect_told.new.self c.collect_told.new.end c.collect_told.ensures.lane

pub returns-clause-collects : goal.returns-clause-collects
returns-clause-collects g c =
    AtCore-set c.self.view_is c.requires.ends c.requires.core c.index_mut-lane.ensures.value (ap (get_or c.args.ends.now c.args.core) c.index-ends-core.is) c.collect_told.new.self c.collect_told.new.end
    (c.collect_told.ensures.untouched, c.collect_told.ensures.collects.0, c.collect_told.ensures.collects.1, c.collect_told.ensures.collects.2)
