use Rattle.actor_seat.proofs.Names.{ends_keep, IsLinked, seen_by, Sending, subst, sym}
use Rattle.actor_seat.proofs.AddedTurns.{adds_ended}
use Rattle.actor_seat.proofs.Kept.{LeavesEnds, kept_linked, kept_seated, kept_stays}
use Rattle.actor_seat.proofs.seat.Seat.end_turn.Given.{Over}
use Rattle.actor_seat.proofs.seat.Seat.end_turn.Goals as goal
use Rattle.actor_seat.proofs.seat.Seat.end_turn.Goals.{After-end_turn}

-- what the call left of the core
leaves : (g : Over) (c : After-end_turn g) → LeavesEnds g.J.Task.meaning c.self.inside.recorded c.end_turn.new.self
leaves g c = record { ins = c.end_turn.ensures.ins; outs = c.end_turn.ensures.outs; lanes = c.end_turn.ensures.lanes; seat = c.end_turn.ensures.seat; sound = c.end_turn.ensures.sound }

pub invariant_of-self : goal.invariant_of-self
invariant_of-self g c = kept_seated (leaves g (goal.at.invariant_of-self g c).After-end_turn) c.self.inside.ends c.self.invariant

pub returns-clause-seated : goal.returns-clause-seated
returns-clause-seated g c = kept_seated (leaves g (goal.at.returns-clause-seated g c).After-end_turn) c.self.inside.ends c.self.invariant

pub returns-clause-stays : goal.returns-clause-stays
returns-clause-stays g c =
    kept_stays (leaves g (goal.at.returns-clause-stays g c).After-end_turn) c.self.inside.ends c.self.view_is (adds_ended c.self.inside.recorded c.end_turn.new.self c.end_turn.result c.end_turn.ensures.ends)

pub returns-clause-linked : goal.returns-clause-linked
returns-clause-linked g c = λ linked.
    let was = subst (IsLinked g.J.Task.meaning) (sym c.self.view_is) linked in
    kept_linked (leaves g (goal.at.returns-clause-linked g c).After-end_turn) c.self.inside.ends was c.end_turn.ensures.ends.out
    (ends_keep g.J.Task.meaning (seen_by (λ (end : Sending _ _). end.out) c.self.inside.ends.outs) c.self.inside.recorded c.end_turn.new.self c.end_turn.ensures.seat c.end_turn.result c.end_turn.ensures.ends was.owed)
