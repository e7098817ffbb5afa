use Rattle.std.proofs.Common.{◌≡◌}
use Rattle.core_timeline.specs.Front.{front_keys}
use Rattle.core_timeline.proofs.FrontSteps.{IsMoving}
use Rattle.core_timeline.proofs.front.places.Places.insert.Given as goal

abbrev pub invariant-loop-queue : goal.invariant-loop-queue
invariant-loop-queue g l =
    IsMoving (front_keys l.initial.self.vrs.items l.initial.self.nodes.items) (record { vr = l.vr; queue = l.queue }) l.self.vrs.items l.self.nodes.items l.self.begin l.at l.self.end
    × (l.self.begin ≡ l.initial.self.begin) × (l.self.end ≡ l.initial.self.end)

abbrev pub decreases-loop-queue : goal.decreases-loop-queue
decreases-loop-queue g l = l.at
