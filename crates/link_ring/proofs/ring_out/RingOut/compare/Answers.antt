use Rattle.std.proofs.Common.{subst, take}
use Rattle.link_ends.specs.Ends.{AreOf}
use Rattle.link_ends.specs.Fits.{Fits}
use Rattle.link_ring.proofs.ring_out.RingOut.compare.Goals as goal

pub returns-clause-outcomes : goal.returns-clause-outcomes
returns-clause-outcomes g c = let other = c.args.other.me.view.inward in
    subst (λ v. AreOf (Fits g.J.Task.meaning) v.out.base (take other.taken v.out.sent) other.given) c.self.view_is c.compare.ensures.outcomes
