use Rattle.std.proofs.Common.{◌<◌, ◌≤◌, ap, arith}
use Rattle.actor_desk.specs.Spending.{booked}
use Rattle.actor_caller.proofs.Booked.{room_to_collect}
use Rattle.actor_caller.proofs.Collected.{collects_here}
use Rattle.actor_caller.proofs.Sent.{held_on}
use Rattle.actor_caller.proofs.caller.Caller.collect.Goals as goal

pub collect_from-requires : goal.collect_from-requires
collect_from-requires g c =
    let low : c.args.core < c.self.inside.outside.desk.cores = omega (arith, c.if-core-self.false, c.core.view_is, c.self.invariant.1.cores_are) in
    record { there = low; room = room_to_collect _ c.self.invariant.1.runtime c.args.core low }

pub invariant_of-self : goal.invariant_of-self
invariant_of-self g c =
    let did = c.collect_from.ensures in
    let books : booked c.collect_from.new.self.desk ≤ c.self.inside.outside.desk.journal.room = omega (arith, did.books, c.self.invariant.1.runtime.room_is) in (
      c.self.invariant.0,
      held_on _ c.self.inside.sink c.self.invariant.1 c.args.core c.collect_from.new.self did.uses books c.self.inside.closing.items c.self.invariant.1.runtime.closings c.self.inside.bells c.self.invariant.1.runtime.bells,
    )

pub returns : goal.returns
returns g c =
    let low : c.args.core < c.self.inside.outside.desk.cores = omega (arith, c.if-core-self.false, c.core.view_is, c.self.invariant.1.cores_are) in
    let did = c.collect_from.ensures in
    record {
      there = λ there. collects_here _ c.self.invariant.1.runtime c.args.core low c.collect_from.new.self did.uses c.collect_from.result did.collects did.shown c.args.self.now c.self.view_is;
      missing = λ past. absurd (omega (arith, past, low, ap (λ view. view.desk.cores) c.self.view_is));
    }
