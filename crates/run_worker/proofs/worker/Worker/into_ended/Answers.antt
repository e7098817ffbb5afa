use Rattle.run_worker.proofs.Names.{HandsOn, IsDrained, shown_of, Shows, subst, sym, WorkerView}
use Rattle.run_worker.proofs.GivenBack.{given_back}
use Rattle.run_worker.proofs.Published.{shown_now}
use Rattle.run_worker.proofs.worker.Worker.into_ended.Given.{Over}
use Rattle.run_worker.proofs.worker.Worker.into_ended.Goals as goal
use Rattle.run_worker.proofs.worker.Worker.into_ended.Goals.{After-hand_on}

-- what was kept is handed on from the seat of the worker
hands : (g : Over) (c : After-hand_on g) → HandsOn g.S.Sink c.self.inside.rounds.served.linked c.self.inside.sink c.hand_on.new.seat c.hand_on.new.sink
hands g c = subst (λ linked. HandsOn g.S.Sink linked c.self.inside.sink c.hand_on.new.seat c.hand_on.new.sink) c.into_seat-seat.ensures.same c.hand_on.ensures.hands

pub of-requires : goal.of-requires
of-requires g c =
    given_back g.S.Sink c.self.inside.rounds.served c.hand_on.new.seat c.self.inside.sink c.hand_on.new.sink c.self.invariant.2 (hands g (goal.at.of-requires g c).After-hand_on) (shown_of c.show_on.new.publisher)
    c.into_seat-seat.ensures.sound (subst (λ view. IsDrained view.linked.recorded.core.cores view.linked.recorded.journal.notes) (sym c.self.view_is) c.requires) c.hand_on.ensures.linked c.hand_on.ensures.between
    (shown_now c.self.inside.rounds.served.linked.recorded _ _ c.self.invariant.3 c.show_on.ensures)

pub returns-clause-shows : goal.returns-clause-shows
returns-clause-shows g c =
    subst (λ ended. Shows c.args.self.linked.recorded.journal.notes c.args.self.shown ended.shown) (sym c.of.ensures)
    (subst (λ (worker : WorkerView _ _ _ _ _). Shows worker.linked.recorded.journal.notes worker.shown (shown_of c.show_on.new.publisher)) c.self.view_is c.show_on.ensures)
