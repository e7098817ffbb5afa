use Rattle.std.proofs.Common.{◌≡◌, drop}
use Rattle.duthlwyran.specs.Plans.{name_of}
use Rattle.duthlwyran.proofs.names.QueueNames.name.Given as goal

abbrev pub invariant-loop-index : goal.invariant-loop-index
invariant-loop-index l =
    name_of l.fn.core l.fn.queue (drop l.index l.self-inside.all.items) ≡ name_of l.fn.core l.fn.queue l.self-inside.all.items
