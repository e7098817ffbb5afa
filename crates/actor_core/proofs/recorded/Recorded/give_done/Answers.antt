use Rattle.actor_core.proofs.Names.{subst, IsRecorded, Gives}
use Rattle.actor_core.proofs.GivenEnds.{given_done}
use Rattle.actor_core.proofs.recorded.Recorded.give_done.Goals as goal

pub give_if-requires : goal.give_if-requires
give_if-requires g c =
    rw c.outcome_done.ensures (given_done g.J.Task.meaning c.args.self.now (subst (IsRecorded g.J.Task.meaning) c.self.view_is c.self.invariant.0) c.args.name (g.I.InEnd.inward c.args.end.now) c.args.settled.now c.requires.may_answer c.requires.owed).0

pub returns-clause-gives : goal.returns-clause-gives
returns-clause-gives g c =
    subst (λ outcome. Gives (g.I.InEnd.inward c.args.end.now) c.args.name.number outcome (g.I.InEnd.inward c.give_if.new.end)) c.outcome_done.ensures c.give_if.ensures.gives

pub returns-clause-beside : goal.returns-clause-beside
returns-clause-beside g c =
    (given_done g.J.Task.meaning c.args.self.now (subst (IsRecorded g.J.Task.meaning) c.self.view_is c.self.invariant.0) c.args.name (g.I.InEnd.inward c.args.end.now) c.args.settled.now c.requires.may_answer c.requires.owed).1 (g.I.InEnd.inward c.give_if.new.end)
    (subst (λ outcome. Gives (g.I.InEnd.inward c.args.end.now) c.args.name.number outcome (g.I.InEnd.inward c.give_if.new.end)) c.outcome_done.ensures c.give_if.ensures.gives)
