use Rattle.run_worker.proofs.Names.{ap, HasPlaces, subst, sym, ◌∙◌}
use Rattle.run_worker.proofs.Supplied.{hands_knows, hands_served}
use Rattle.run_worker.proofs.served.Served.hand_on.Goals as goal

pub invariant_of-self : goal.invariant_of-self
invariant_of-self g c = (
  hands_served g.S.Sink c.self.inside.seat c.hand_on.new.seat c.args.sink.now c.hand_on.new.sink c.hand_on.ensures.hands c.self.inside.ending
      (ap (λ view. view.ending) c.self.view_is ∙ c.requires.going) (subst (λ view. HasPlaces view.linked.recorded) (sym c.self.view_is) c.requires.places) c.self.invariant.0 c.hand_on.ensures.linked
      c.hand_on.ensures.between,
  hands_knows g.S.Sink c.self.inside.seat c.hand_on.new.seat c.args.sink.now c.hand_on.new.sink c.hand_on.ensures.hands c.self.inside.cores c.self.inside.least c.self.inside.alone c.self.invariant.1,
)
