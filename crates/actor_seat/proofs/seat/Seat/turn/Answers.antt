use Rattle.actor_seat.proofs.Names.{ap, IsLinked, LinkedView, subst, sym, ◌∙◌}
use Rattle.actor_core.specs.WholeTurns as made
use Rattle.actor_seat.proofs.TurnOfEnds.{TurnsLinked, among, pair, turns_linked}
use Rattle.actor_seat.proofs.seat.Seat.turn.Given.{Over}
use Rattle.actor_seat.proofs.seat.Seat.turn.Goals as goal
use Rattle.actor_seat.proofs.seat.Seat.turn.Goals.{After-turn}

pub turn-requires-clause-rest : goal.turn-requires-clause-rest
turn-requires-clause-rest g c = among g.J.Task.meaning c.self.inside.recorded c.self.inside.ends c.own.inside.0 (subst (IsLinked g.J.Task.meaning) (sym c.self.view_is) c.requires.linked)

-- the turn of a linked core
came : (g : Over) (c : After-turn g) → TurnsLinked g.J.Task.meaning g.M.Meter.Tells g.G.Gate.Asked c.args.self.now c.args.meter.now c.args.gate.now c.turn.result (pair c.turn.new.core c.turn.new.around) c.turn.new.meter c.turn.new.gate
came g c =
    let was : IsLinked g.J.Task.meaning (pair c.self.inside.recorded c.self.inside.ends) = subst (IsLinked g.J.Task.meaning) (sym c.self.view_is) c.requires.linked in
    subst (λ old. TurnsLinked g.J.Task.meaning g.M.Meter.Tells g.G.Gate.Asked old c.args.meter.now c.args.gate.now c.turn.result (pair c.turn.new.core c.turn.new.around) c.turn.new.meter c.turn.new.gate) c.self.view_is
    (turns_linked g.J.Task.meaning g.M.Meter.Tells g.G.Gate.Asked c.own.inside.0 (made.turn_view c.self.inside.recorded c.self.inside.ends c.args.meter.now c.args.gate.now)
    (made.turn_view c.turn.new.core c.turn.new.around c.turn.new.meter c.turn.new.gate) c.turn.result
    (c.own.view_is ∙ (c.actor.ensures ∙ sym (ap (λ (view : LinkedView _ _). view.recorded.core.core) c.self.view_is))) was c.turn.ensures.makes c.turn.ensures.rest (c.turn.ensures.owed was.owed))

pub invariant_of-self : goal.invariant_of-self
invariant_of-self g c = let did = came g (goal.at.invariant_of-self g c).After-turn in record { recorded = did.linked.recorded; beside = did.linked.beside }

pub returns-clause-makes : goal.returns-clause-makes
returns-clause-makes g c = (came g (goal.at.returns-clause-makes g c).After-turn).makes

pub returns-clause-stays : goal.returns-clause-stays
returns-clause-stays g c = (came g (goal.at.returns-clause-stays g c).After-turn).stays

pub returns-clause-linked : goal.returns-clause-linked
returns-clause-linked g c = (came g (goal.at.returns-clause-linked g c).After-turn).linked
