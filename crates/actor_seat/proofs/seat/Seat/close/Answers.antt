use Rattle.actor_seat.proofs.Names.{closes_keep, IsLinked, seen_by, Sending, subst, sym}
use Rattle.actor_seat.proofs.AddedTurns.{adds_closing}
use Rattle.actor_seat.proofs.Kept.{LeavesEnds, closed_rests, kept_linked, kept_seated, kept_stays}
use Rattle.actor_seat.proofs.seat.Seat.close.Given.{Over}
use Rattle.actor_seat.proofs.seat.Seat.close.Goals as goal
use Rattle.actor_seat.proofs.seat.Seat.close.Goals.{After-close}

-- what the call left of the core
leaves : (g : Over) (c : After-close g) → LeavesEnds g.J.Task.meaning c.self.inside.recorded c.close.new.self
leaves g c = record { ins = c.close.ensures.ins; outs = c.close.ensures.outs; lanes = c.close.ensures.lanes; seat = c.close.ensures.seat; sound = c.close.ensures.sound }

pub invariant_of-self : goal.invariant_of-self
invariant_of-self g c = kept_seated (leaves g (goal.at.invariant_of-self g c).After-close) c.self.inside.ends c.self.invariant

pub returns-clause-seated : goal.returns-clause-seated
returns-clause-seated g c = kept_seated (leaves g (goal.at.returns-clause-seated g c).After-close) c.self.inside.ends c.self.invariant

pub returns-clause-stays : goal.returns-clause-stays
returns-clause-stays g c =
    kept_stays (leaves g (goal.at.returns-clause-stays g c).After-close) c.self.inside.ends c.self.view_is (adds_closing c.self.inside.recorded c.close.new.self c.args.mode c.close.result c.close.ensures.closes)

pub returns-clause-linked : goal.returns-clause-linked
returns-clause-linked g c = λ linked.
    let was = subst (IsLinked g.J.Task.meaning) (sym c.self.view_is) linked in
    kept_linked (leaves g (goal.at.returns-clause-linked g c).After-close) c.self.inside.ends was
    (closed_rests c.self.inside.recorded c.close.new.self c.args.mode c.close.result c.close.ensures.closes was.at_rest)
    (closes_keep g.J.Task.meaning (seen_by (λ (end : Sending _ _). end.out) c.self.inside.ends.outs) c.self.inside.recorded c.close.new.self c.close.ensures.seat c.args.mode c.close.result c.close.ensures.closes was.owed)
