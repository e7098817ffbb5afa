use Rattle.run_worker.proofs.Names.{shown_of}
use Rattle.run_worker.proofs.Published.{shown_now}
use Rattle.run_worker.proofs.worker.Worker.show.Goals as goal

pub invariant_of-self : goal.invariant_of-self
invariant_of-self g c = (
  c.self.invariant.0,
  c.self.invariant.1,
  c.self.invariant.2,
  (shown_now c.self.inside.rounds.served.linked.recorded (shown_of c.self.inside.publisher) (shown_of c.show_on.new.publisher) c.self.invariant.3 c.show_on.ensures).is_shown,
)
