use Rattle.actor_seat.proofs.Names.{ap, IsLinked, LinkedView, RecordedView, subst, sym, ◌≡◌}
use Rattle.actor_seat.proofs.Passed.{passed_linked, passed_seated, same_notes}
use Rattle.actor_seat.proofs.seat.Seat.pass_on.Given.{Over}
use Rattle.actor_seat.proofs.seat.Seat.pass_on.Goals as goal
use Rattle.actor_seat.proofs.seat.Seat.pass_on.Goals.{After-pass_on}

-- no note is lost, and none comes
same : (g : Over) (c : After-pass_on g) → c.pass_on.new.self.journal.notes ≡ c.self.inside.recorded.journal.notes
same g c = same_notes g.S.Sink.has g.S.Sink.refused c.self.inside.recorded.journal c.pass_on.new.self.journal c.args.sink.now c.pass_on.new.sink c.pass_on.result c.pass_on.ensures.passes

pub invariant_of-self : goal.invariant_of-self
invariant_of-self g c =
    passed_seated c.self.inside.recorded c.pass_on.new.self c.pass_on.ensures.rest (same g (goal.at.invariant_of-self g c).After-pass_on) c.self.inside.ends c.self.invariant c.pass_on.ensures.sound

pub returns-clause-seated : goal.returns-clause-seated
returns-clause-seated g c =
    passed_seated c.self.inside.recorded c.pass_on.new.self c.pass_on.ensures.rest (same g (goal.at.returns-clause-seated g c).After-pass_on) c.self.inside.ends c.self.invariant c.pass_on.ensures.sound

pub returns-clause-rest : goal.returns-clause-rest
returns-clause-rest g c =
    subst (λ (old : LinkedView _ _). record { recorded = c.pass_on.new.self; ends = c.self.inside.ends } ≡ record old { recorded = record old.recorded { journal = c.pass_on.new.self.journal } }) c.self.view_is
    (ap (λ (recorded : RecordedView _ _). record { recorded = recorded; ends = c.self.inside.ends }) c.pass_on.ensures.rest)

pub returns-clause-linked : goal.returns-clause-linked
returns-clause-linked g c = λ linked.
    passed_linked c.self.inside.recorded c.pass_on.new.self c.pass_on.ensures.rest (same g (goal.at.returns-clause-linked g c).After-pass_on) c.self.inside.ends
    (subst (IsLinked g.J.Task.meaning) (sym c.self.view_is) linked) c.pass_on.ensures.sound
