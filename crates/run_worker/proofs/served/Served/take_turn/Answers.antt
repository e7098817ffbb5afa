use Rattle.run_worker.proofs.Names.{ap, is_turn, IsReady, length, MakesTurn, ServedView, StepsServed, subst, sym, turn_most, turn_view, ◌+◌, ◌∙◌, ◌≤◌}
use Rattle.run_worker.proofs.Alone.{knows_along}
use Rattle.run_worker.proofs.Fewer.{most_along}
use Rattle.run_worker.proofs.Serving.{turned_served}
use Rattle.run_worker.proofs.Spare.{turn_room}
use Rattle.run_worker.proofs.Telling.{looked_steps}
use Rattle.run_worker.proofs.TurnNotes.{turned_tells}
use Rattle.run_worker.proofs.TurnRoom.{made_few}
use Rattle.run_worker.proofs.served.Served.take_turn.Goals as goal

pub turn-made-requires : goal.turn-made-requires
turn-made-requires g c = record {
  linked = c.self.invariant.0.linked;
  between = c.self.invariant.0.between;
  room = turn_room c.self.inside.seat c.self.invariant.0.linked c.self.inside.ending (subst (λ view. IsReady view.ending view.linked.recorded) (sym c.self.view_is) c.look.ensures.ready);
}

pub invariant_of-self : goal.invariant_of-self
invariant_of-self g c = (
  turned_served c.self.inside.seat c.turn-made.new.self c.self.invariant.0.linked c.turn-made.ensures.linked c.self.invariant.0.between c.turn-made.ensures.between c.turn-made.ensures.stays.seat g.M.Meter.Tells g.G.Gate.Asked c.args.meter.now c.turn-made.new.meter
      c.args.gate.now c.turn-made.new.gate c.turn-made.result c.self.inside.ending c.turn-made.ensures.makes
      (subst (λ view. IsReady view.ending view.linked.recorded) (sym c.self.view_is) c.look.ensures.ready) c.self.invariant.0.acts,
  knows_along c.self.inside.cores c.self.inside.least c.self.inside.alone c.self.inside.seat c.turn-made.new.self c.turn-made.ensures.stays c.self.invariant.1,
)

pub returns-clause-steps : goal.returns-clause-steps
returns-clause-steps g c =
    let made = made_few g.J.Task.meaning g.M.Meter.Tells g.G.Gate.Asked (turn_view c.self.inside.seat c.args.meter.now c.args.gate.now) (turn_view c.turn-made.new.self c.turn-made.new.meter c.turn-made.new.gate) c.turn-made.result c.turn-made.ensures.makes in
    subst (λ some. StepsServed (turn_most c.args.self.now) c.args.self.now some (record { linked = c.turn-made.new.self; ending = c.self.inside.ending })) (sym c.is_work.ensures)
    (looked_steps (turn_most c.args.self.now) c.args.self.now c.look.new.self (record { linked = c.self.inside.seat; ending = c.self.inside.ending }) c.turn-made.new.self (is_turn c.turn-made.result) c.self.view_is c.look.ensures.looks c.look.ensures.stays
    c.turn-made.ensures.stays
    (turned_tells g.J.Task.meaning g.M.Meter.Tells g.G.Gate.Asked (turn_view c.self.inside.seat c.args.meter.now c.args.gate.now) (turn_view c.turn-made.new.self c.turn-made.new.meter c.turn-made.new.gate) c.turn-made.result c.turn-made.ensures.makes)
    (subst (λ most. length c.turn-made.new.self.recorded.journal.notes ≤ length c.self.inside.seat.recorded.journal.notes + most)
    (ap (λ view. turn_most view) c.self.view_is ∙ most_along c.args.self.now.linked.recorded c.look.new.self.linked.recorded c.look.ensures.stays.seat) made))

pub returns-clause-takes : goal.returns-clause-takes
returns-clause-takes g c = record {
  before = c.look.new.self;
  looks = c.look.ensures.looks;
  none = c.look.ensures.polls;
  stays = c.look.ensures.stays;
  ready = c.look.ensures.ready;
  ended = ap (λ (view : ServedView _ _). view.ending) c.self.view_is;
  made = c.turn-made.result;
  makes =
      subst (λ (view : ServedView _ _). MakesTurn g.J.Task.meaning g.M.Meter.Tells g.G.Gate.Asked (turn_view view.linked c.args.meter.now c.args.gate.now) c.turn-made.result (turn_view c.turn-made.new.self c.turn-made.new.meter c.turn-made.new.gate))
      c.self.view_is c.turn-made.ensures.makes;
  answer = c.is_work.ensures;
}
