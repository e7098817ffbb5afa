use Rattle.std.proofs.Common.{rules}
use Rattle.fairexec_script.proofs.ThreadsLimitLemmas.{queue_more, lines_counted}
use Rattle.fairexec_script.proofs.threads_draft.Draft.add_queue.Goals as goal

pub invariant_of-self-2 : goal.invariant_of-self-2
invariant_of-self-2 c =
    (rw c.in_ok-push.ensures.items (
      queue_more (record { size = c.self.inside.size; burst = c.self.inside.burst; queues = c.self.inside.queues.items; orders = c.self.inside.orders.items }) (c.args.core, c.args.shares) c.self.invariant.0 (search rules) (search rules),
      c.self.invariant.1,
      c.self.invariant.2,
      lines_counted _ (c.args.core, c.args.shares) _ _ _ _ c.self.invariant.3 c.add.ensures,
    ))
