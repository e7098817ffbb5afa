use Rattle.std.proofs.Common.{subst, take}
use Rattle.link_ends.specs.Ends.{AreOf}
use Rattle.link_ends.specs.Fits.{Fits}
use Rattle.link_ring.proofs.ring_in.RingIn.compare.Goals as goal

pub returns-clause-outcomes : goal.returns-clause-outcomes
returns-clause-outcomes g c = let out = c.args.out.now.out in
    subst (λ v. AreOf (Fits g.J.Task.meaning) out.base (take v.inward.taken out.sent) v.inward.given) c.self.view_is c.compare-seat.ensures.outcomes
