use Rattle.std.proofs.Common.{◌≤◌, arith, subst, length-append}
use Rattle.core_timeline.specs.Tree.{IsLow}
use Rattle.core_timeline.proofs.Leading.{IsLow-led}
use Rattle.core_timeline.proofs.Heights.{IsLow-from_filled}
use Rattle.core_timeline.specs.Led.{led_keys, front_of}
use Rattle.core_timeline.proofs.Queues.{length-le-256}
use Rattle.core_timeline.proofs.timeline.Timeline.height.Goals as goal

pub height-requires : goal.height-requires
height-requires g c =
    let first = front_of c.self.inside.first in
    let later = c.self.inside.later in
    let few = length-le-256 (led_keys first later) c.self.invariant.0 in
    let low : later.height ≤ 18 = IsLow-from_filled later c.know_filled.ensures 9 (omega (arith, length-append first later.keys)) in
    omega arith

pub returns-clause-low : goal.returns-clause-low
returns-clause-low g c = subst IsLow c.self.view_is (IsLow-led (front_of c.self.inside.first) c.self.inside.later c.know_filled.ensures)
