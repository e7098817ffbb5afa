use Rattle.std.proofs.Common.{◌+◌, ◌<◌, ap, sym, ◌∙◌}
use Rattle.fairexec_script.specs.Orders.{polls_in, orders_to}
use Rattle.fairexec_script.specs.ThreadsDrafts.{cap_of}
use Rattle.fairexec_script.proofs.ThreadsLimitLemmas.{order_more, polls_more, sent_counted, few_sent}
use Rattle.fairexec_script.proofs.threads_draft.Draft.push_order.Goals as goal

pub add-requires : goal.add-requires
add-requires c =
    let room : orders_to c.args.core c.self.inside.orders.items + 1 < cap_of c.self.inside.size = rw (← c.self.view_is) at c.requires.room in
    let few : orders_to c.args.core c.self.inside.orders.items < 65535 = few_sent c.self.inside.size _ c.self.invariant.0.sized room in
    rw (c.self.invariant.3.sent_are c.args.core) few

pub invariant_of-self-2 : goal.invariant_of-self-2
invariant_of-self-2 c =
    let more = polls_more c.self.inside.orders.items (c.args.core, c.args.order) in
    rw c.in_ok-push.ensures.items (
      order_more (record { size = c.self.inside.size; burst = c.self.inside.burst; queues = c.self.inside.queues.items; orders = c.self.inside.orders.items }) (c.args.core, c.args.order) c.self.invariant.0 (rw (← c.self.view_is) at c.requires.told) (rw (← c.self.view_is) at c.requires.room),
      ap (λ n. n + c.args.polls) c.self.invariant.1 ∙ ap (λ n. polls_in c.self.inside.orders.items + n) c.requires.polls ∙ sym more,
      rw c.self.invariant.1 (rw (← c.self.view_is) at c.requires.few),
      sent_counted _ _ (c.args.core, c.args.order) _ _ _ c.self.invariant.3 c.add.ensures,
    )
