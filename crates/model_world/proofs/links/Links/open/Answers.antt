use Rattle.model_world.proofs.LinkWords.{arith, map-append}
use Rattle.model_world.proofs.Opening.{AreFreshRows-push}
use Rattle.model_world.proofs.links.Links.open.Goals as goal

pub loop-sender-preserved : goal.loop-sender-preserved
loop-sender-preserved g c = (
  omega (arith, c.loop-sender.invariant.0, c.push_reserved.ensures.capacity),
  rw (c.push_reserved.ensures.items, map-append, c.sealed.ensures.items) (AreFreshRows-push c.loop-sender.sender c.args.cores c.args.cap _ _ c.loop-sender.invariant.1 c.in_ok-row.ensures),
)
