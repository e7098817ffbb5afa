use Rattle.std.proofs.Common.{◌≡◌, false}
use Rattle.core_timeline.specs.Rising.{has_key}
use Rattle.core_timeline.proofs.FrontKeys.{keys_before}
use Rattle.core_timeline.proofs.front.places.Places.find.Given as goal

abbrev pub invariant-loop-at : goal.invariant-loop-at
invariant-loop-at g l = has_key l.key (keys_before l.self.vrs.items l.self.nodes.items l.at) ≡ false
