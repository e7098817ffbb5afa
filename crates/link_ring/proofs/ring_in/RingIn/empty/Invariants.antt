use Rattle.std.proofs.Common.{◌≡◌, ◌-◌, true, length}
use Rattle.link_ring.proofs.ring_in.RingIn.empty.Given as goal

abbrev pub invariant-orders : goal.invariant-orders
invariant-orders g l = l.self.inward.shut ≡ true

abbrev pub decreases-orders : goal.decreases-orders
decreases-orders g l = length l.self.inward.seen - l.self.inward.taken
