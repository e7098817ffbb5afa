use Rattle.std.proofs.Common.{◌≡◌, false}
use Rattle.core_timeline.specs.Rising.{has_queue}
use Rattle.core_timeline.proofs.FrontKeys.{keys_before}
use Rattle.core_timeline.proofs.front.places.Places.has_queue.Given as goal

abbrev pub invariant-loop-at : goal.invariant-loop-at
invariant-loop-at g l = has_queue l.queue (keys_before l.self.vrs.items l.self.nodes.items l.at) ≡ false
