use Rattle.std.proofs.Common.{get_or, ap}
use Rattle.actor_desk.proofs.Cores.{at-core, set-core, AtCore-set}
use Rattle.actor_desk.proofs.desk.Desk.detach_at.Goals as goal

pub detach-requires : goal.detach-requires
detach-requires g c = at-core c.self.view_is c.requires.ends c.requires.core c.index_mut-lane.ensures.value (ap (get_or c.args.ends.now c.args.core) c.index-ends-core.is)

pub returns-clause-ends : goal.returns-clause-ends
returns-clause-ends g c = set-core c.self.view_is c.requires.ends c.args.core c.detach.new.self c.detach.new.end c.detach.ensures.lane

pub returns-clause-detaches : goal.returns-clause-detaches
returns-clause-detaches g c =
    AtCore-set c.self.view_is c.requires.ends c.requires.core c.index_mut-lane.ensures.value (ap (get_or c.args.ends.now c.args.core) c.index-ends-core.is) c.detach.new.self c.detach.new.end
    (c.detach.ensures.untouched, c.detach.ensures.out, c.detach.ensures.detaches)
