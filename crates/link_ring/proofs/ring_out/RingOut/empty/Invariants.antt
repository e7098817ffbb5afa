use Rattle.std.proofs.Common.{◌-◌, length}
use Rattle.link_ring.proofs.ring_out.RingOut.empty.Given as goal

abbrev pub decreases-outcomes : goal.decreases-outcomes
decreases-outcomes g l = length l.self.out.sent - l.self.out.got
