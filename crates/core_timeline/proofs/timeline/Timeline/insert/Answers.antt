use Rattle.std.proofs.Common.{arith, subst, sym}
use Rattle.base_words.specs.declared.names.Key.{Key}
use Rattle.core_timeline.specs.Rising.{LacksQueue}
use Rattle.core_timeline.specs.Led.{led_keys, front_of}
use Rattle.core_timeline.proofs.Queues.{length-le-256, length-inserted, IsOfQueues-inserted}
use Rattle.core_timeline.proofs.timeline.Timeline.insert.Goals as goal

pub overflow_add-self : goal.overflow_add-self
overflow_add-self g c = omega (arith, length-le-256 (led_keys (front_of c.self.inside.first) c.self.inside.later) c.self.invariant.0)

pub invariant_of-self : goal.invariant_of-self
invariant_of-self g c =
    let keys = led_keys (front_of c.self.inside.first) c.self.inside.later in
    let key : Key = record { vr = c.args.vr; queue = c.args.slip } in
    let absent : LacksQueue c.args.slip keys = subst (λ tree. LacksQueue c.args.slip tree.keys) (sym c.self.view_is) c.requires.absent in
    rw (c.enter.ensures.keys, c.into_node.ensures.queue) (
      IsOfQueues-inserted key keys absent c.into_node.ensures.numbered c.self.invariant.0,
      omega (arith, length-inserted key keys),
      c.enter.ensures.fronted,
    )
