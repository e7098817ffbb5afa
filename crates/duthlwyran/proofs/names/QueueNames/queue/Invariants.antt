use Rattle.std.proofs.Common.{◌≡◌, drop}
use Rattle.duthlwyran.specs.Plans.{queue_named}
use Rattle.duthlwyran.proofs.names.QueueNames.queue.Given as goal

abbrev pub invariant-loop-index : goal.invariant-loop-index
invariant-loop-index l =
    queue_named l.fn.core l.fn.name (drop l.index l.self-inside.all.items) ≡ queue_named l.fn.core l.fn.name l.self-inside.all.items
