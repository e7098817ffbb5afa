use Rattle.std.proofs.Common.{◌<◌, ◌≤◌, arith}
use Rattle.actor_desk.specs.Spending.{booked}
use Rattle.actor_caller.proofs.Booked.{books_redeemed, room_held}
use Rattle.actor_caller.proofs.Redeemed.{redeemed_here}
use Rattle.actor_caller.proofs.Sent.{held_on}
use Rattle.actor_caller.proofs.caller.Caller.redeem.Goals as goal

pub redeem-requires-clause-room : goal.redeem-requires-clause-room
redeem-requires-clause-room g c = room_held _ c.self.invariant.1.runtime c.args.ticket

pub invariant_of-self : goal.invariant_of-self
invariant_of-self g c =
    let did = c.redeem.ensures in
    let books : booked c.redeem.new.self.desk ≤ c.self.inside.outside.desk.journal.room =
    omega (arith, books_redeemed c.args.ticket c.self.inside.outside.desk c.redeem.new.self.desk c.redeem.result did.redeems did.spends, c.self.invariant.1.runtime.room_is) in (
      c.self.invariant.0,
      held_on _ c.self.inside.sink c.self.invariant.1 c.args.ticket.to c.redeem.new.self did.uses books c.self.inside.closing.items c.self.invariant.1.runtime.closings c.self.inside.bells c.self.invariant.1.runtime.bells,
    )

pub returns : goal.returns
returns g c =
    let did = c.redeem.ensures in
    let low : c.args.ticket.to < c.self.inside.outside.desk.cores = (c.knows.ensures.knows.0 c.if-not-knows.false).1 in
    redeemed_here _ c.args.self.now c.self.view_is c.self.invariant.1.runtime c.args.ticket low c.redeem.new.self did.uses did.out c.redeem.result did.redeems did.given did.fits did.refused
