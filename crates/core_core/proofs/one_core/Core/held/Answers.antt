use Rattle.core_core.proofs.Names.{arith, held_of-le-held_count, queues_alone}
use Rattle.core_core.proofs.one_core.Core.held.Goals as goal

pub overflow_add-result : goal.overflow_add-result
overflow_add-result g c =
    let counted = c.self.invariant.counted in
    omega (arith, held_of-le-held_count c.args.queue (queues_alone c.self.inside.queues), counted.limits.within_room, counted.same_room, c.count.ensures, c.parked_count.ensures)
