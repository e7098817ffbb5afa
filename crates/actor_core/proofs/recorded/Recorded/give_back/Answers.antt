use Rattle.actor_core.proofs.Names.{subst, IsRecorded}
use Rattle.actor_core.proofs.GivenEnds.{given_back}
use Rattle.actor_core.proofs.recorded.Recorded.give_back.Goals as goal

pub give-requires : goal.give-requires
give-requires g c =
    let recorded = subst (IsRecorded g.J.Task.meaning) c.self.view_is c.self.invariant.0 in
    (given_back g.J.Task.meaning c.args.self.now recorded c.args.name c.args.reason c.args.order c.requires.sent (g.I.InEnd.inward c.args.end.now) c.requires.owed).0

pub returns-clause-beside : goal.returns-clause-beside
returns-clause-beside g c =
    let recorded = subst (IsRecorded g.J.Task.meaning) c.self.view_is c.self.invariant.0 in
    (given_back g.J.Task.meaning c.args.self.now recorded c.args.name c.args.reason c.args.order c.requires.sent (g.I.InEnd.inward c.args.end.now) c.requires.owed).1 (g.I.InEnd.inward c.give.new.self) c.give.ensures.gives
