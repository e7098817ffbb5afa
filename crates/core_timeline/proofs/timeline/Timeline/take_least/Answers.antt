use Rattle.std.proofs.Common.{◌<◌, List, ◌∷◌, length, subst, ap, arith, length-append}
use Rattle.base_words.specs.declared.names.Key.{Key}
use Rattle.core_timeline.specs.Rising.{IsOfQueues}
use Rattle.core_timeline.specs.Nodes.{key_of}
use Rattle.core_timeline.specs.Led.{led_keys, front_of}
use Rattle.core_timeline.proofs.Queues.{length-le-256, IsOfQueues-later}
use Rattle.core_timeline.proofs.timeline.Timeline.take_least.Goals as goal

pub leave-node-requires : goal.leave-node-requires
leave-node-requires g c =
    let first = front_of c.self.inside.first in
    let later = c.self.inside.later in
    let few = length-le-256 (led_keys first later) c.self.invariant.0 in
    let some : 0 < length (led_keys first later) = omega (arith, c.self.invariant.1, c.if-self-eq0.false) in
    record { some = some; fronted = c.self.invariant.2; few = omega (arith, few, length-append first later.keys) }

pub invariant_of-self : goal.invariant_of-self
invariant_of-self g c =
    let taken = key_of c.leave-node.new.vr c.leave-node.result.value in
    let left = led_keys (front_of c.leave-node.new.first) c.leave-node.new.later in
    let all : IsOfQueues (taken ∷ left) = subst IsOfQueues c.leave-node.ensures.keys c.self.invariant.0 in
    (IsOfQueues-later taken left all, omega (arith, c.self.invariant.1, ap (λ (keys : List Key). length keys) c.leave-node.ensures.keys), c.leave-node.ensures.fronted)
