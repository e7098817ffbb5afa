use Rattle.std.proofs.Common.{◌≡◌, false, rules}
use Rattle.core_timeline.specs.Rising.{has_queue}
use Rattle.core_timeline.proofs.Queues.{LacksQueue-from_test}
use Rattle.core_timeline.proofs.Leading.{has_queue-of_both}
use Rattle.core_timeline.proofs.timeline.Timeline.has_queue.Goals as goal

pub returns-else-has_front_queue-clause-absent : goal.returns-else-has_front_queue-clause-absent
returns-else-has_front_queue-clause-absent g c = λ none. LacksQueue-from_test c.args.queue c.args.self.now.keys (let e : has_queue c.args.queue c.args.self.now.keys ≡ false = search (rules, has_queue-of_both) in e)
