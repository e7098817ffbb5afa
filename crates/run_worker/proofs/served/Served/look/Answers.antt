use Rattle.run_worker.proofs.Names.{sym, ◌∙◌}
use Rattle.run_worker.proofs.Between.{between_behind}
use Rattle.run_worker.proofs.Spare.{least_along}
use Rattle.run_worker.proofs.served.Served.look.Goals as goal

pub invariant_of-self : goal.invariant_of-self
invariant_of-self g c = (
  record {
    linked = c.end-self-inside.ensures.linked;
    between = between_behind _ _ c.end-self-inside.ensures.stays c.end-self-inside.ensures.polls c.self.invariant.0.between;
    provided = c.end-self-inside.ensures.ending;
    acts = c.end-self-inside.ensures.acts;
  },
  record {
    cores_are = c.self.invariant.1.cores_are ∙ sym c.end-self-inside.ensures.stays.seat.cores;
    least_is = c.self.invariant.1.least_is ∙ sym (least_along _ _ c.end-self-inside.ensures.stays.seat);
    tells = c.end-self-inside.ensures.alone;
  },
)
