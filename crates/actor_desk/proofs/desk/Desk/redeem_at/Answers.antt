use Rattle.std.proofs.Common.{get_or, ap}
use Rattle.actor_desk.proofs.Cores.{at-core, set-core, AtCore-set}
use Rattle.actor_desk.proofs.desk.Desk.redeem_at.Goals as goal

pub redeem-requires : goal.redeem-requires
redeem-requires g c = at-core c.self.view_is c.requires.ends c.requires.core c.index_mut-lane.ensures.value (ap (get_or c.args.ends.now c.args.core) c.index-ends-core.is)

pub returns-clause-ends : goal.returns-clause-ends
returns-clause-ends g c = set-core c.self.view_is c.requires.ends c.args.core c.redeem.new.self c.redeem.new.end c.redeem.ensures.lane

pub returns-clause-redeems : goal.returns-clause-redeems
returns-clause-redeems g c =
    AtCore-set c.self.view_is c.requires.ends c.requires.core c.index_mut-lane.ensures.value (ap (get_or c.args.ends.now c.args.core) c.index-ends-core.is) c.redeem.new.self c.redeem.new.end
    (c.redeem.ensures.untouched, c.redeem.ensures.out, c.redeem.ensures.redeems, c.redeem.ensures.given, c.redeem.ensures.fits)
