use Rattle.std.proofs.Common.{◌≡◌}
use Rattle.core_timeline.specs.Front.{front_keys}
use Rattle.core_timeline.proofs.FrontCompact.{IsCompacting}
use Rattle.core_timeline.proofs.front.places.Places.compact.Given as goal

abbrev pub invariant-loop-at : goal.invariant-loop-at
invariant-loop-at g l =
    IsCompacting l.self.vrs.items l.self.nodes.items l.begin l.at l.count
    × (front_keys l.self.vrs.items l.self.nodes.items ≡ front_keys l.initial.self.vrs.items l.initial.self.nodes.items)
