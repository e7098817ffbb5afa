use Rattle.fairexec_c.proofs.HandedIn.{keeps_delivery, hosted_then}
use Rattle.fairexec_c.proofs.hosted.Hosted.hand_in.Goals as goal

pub invariant_of-self : goal.invariant_of-self
invariant_of-self c =
    hosted_then c.self.invariant
    (keeps_delivery c.self.inside.core _ c.deliver-delivered.new.self c.args.order c.deliver-delivered.result.0 c.deliver-delivered.result.1.items c.deliver-delivered.ensures.delivers)
