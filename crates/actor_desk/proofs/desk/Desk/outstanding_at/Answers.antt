use Rattle.std.proofs.Common.{◌≡◌, sym, subst}
use Rattle.std.specs.Prelude.{IfSome}
use Rattle.actor_desk.specs.Held.{count_of}
use Rattle.actor_desk.proofs.Cores.{at-core, lane_there}
use Rattle.actor_desk.proofs.desk.Desk.outstanding_at.Goals as goal

pub outstanding-requires : goal.outstanding-requires
outstanding-requires g c = at-core c.self.view_is c.requires.ends c.requires.core c.index-lane.ensures c.index-ends-core.is

pub returns : goal.returns
returns g c = subst (λ o. IfSome o (λ lane. c.outstanding.result ≡ count_of lane.entries)) (sym (lane_there c.self.view_is c.requires.ends c.requires.core c.index-lane.ensures c.index-ends-core.is)) c.outstanding.ensures
