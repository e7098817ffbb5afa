use Rattle.std.proofs.Common.{◌≡◌, Option, List, length, subst}
use Rattle.base_words.specs.declared.names.Key.{Key}
use Rattle.core_timeline.specs.Rising.{IsOfQueues}
use Rattle.core_timeline.specs.Led.{led_keys, front_of, IsFronted}
use Rattle.core_timeline.proofs.Leading.{moved-only}
use Rattle.core_timeline.proofs.timeline.Timeline.move_least.Goals as goal

pub invariant_of-self : goal.invariant_of-self
invariant_of-self g c =
    let later = c.self.inside.later in
    let len = c.self.inside.len in
    let was = subst (λ (first : Option (List Key)). IsOfQueues (led_keys (front_of first) later) × (len ≡ length (led_keys (front_of first) later)) × IsFronted first later) c.in-Some.is c.self.invariant in
    moved-only c.in-Some.front c.move_only.new.self later c.args.vr len c.if-self-ne1.false was c.move_only.ensures
