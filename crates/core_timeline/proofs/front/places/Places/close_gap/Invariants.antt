use Rattle.std.proofs.Common.{◌≡◌}
use Rattle.core_timeline.specs.Front.{front_keys, HasGap}
use Rattle.core_timeline.proofs.front.places.Places.close_gap.Given as goal

abbrev pub invariant-loop-at : goal.invariant-loop-at
invariant-loop-at g l = HasGap l.self.vrs.items l.self.nodes.items l.self.begin l.at l.last × (front_keys l.self.vrs.items l.self.nodes.items ≡ front_keys l.initial.self.vrs.items l.initial.self.nodes.items)
