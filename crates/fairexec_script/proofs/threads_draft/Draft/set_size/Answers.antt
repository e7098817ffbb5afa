use Rattle.fairexec_script.proofs.ThreadsLimitLemmas.{size_known}
use Rattle.fairexec_script.proofs.threads_draft.Draft.set_size.Goals as goal

pub invariant_of-self : goal.invariant_of-self
invariant_of-self c = (
  size_known (record { size = c.self.inside.size; burst = c.self.inside.burst; queues = c.self.inside.queues.items; orders = c.self.inside.orders.items })
      (c.args.cores, c.args.cap) c.args.burst c.self.invariant.0 (rw (← c.self.view_is) at c.requires.first) c.requires.size c.requires.burst,
  c.self.invariant.1,
  c.self.invariant.2,
  c.self.invariant.3,
)
