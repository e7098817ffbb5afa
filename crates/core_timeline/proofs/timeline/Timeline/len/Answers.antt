use Rattle.std.proofs.Common.{arith}
use Rattle.core_timeline.specs.Led.{led_keys, front_of}
use Rattle.core_timeline.proofs.Queues.{length-le-256}
use Rattle.core_timeline.proofs.timeline.Timeline.len.Goals as goal

pub returns-clause-few : goal.returns-clause-few
returns-clause-few g c = omega (arith, length-le-256 (led_keys (front_of c.self.inside.first) c.self.inside.later) c.self.invariant.0)
