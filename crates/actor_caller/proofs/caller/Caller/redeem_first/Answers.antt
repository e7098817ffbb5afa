use Rattle.std.proofs.Common.{◌∙◌, Err, sym, ap, subst, arith}
use Rattle.link_ends.specs.Fits.{Fits}
use Rattle.actor_caller.specs.Tickets.{RedeemsHere}
use Rattle.actor_caller.proofs.Idle.{none_pending, one_pending}
use Rattle.actor_caller.proofs.caller.Caller.redeem_first.Goals as goal

pub loop-place-init : goal.loop-place-init
loop-place-init g c = none_pending c.args.self.now

pub loop-place-preserved : goal.loop-place-preserved
loop-place-preserved g c =
    let ticket = c.index-tickets-place.result in
    let pending = subst (λ answer. RedeemsHere (Fits g.J.Task.meaning) ticket c.loop-place.self answer c.redeem.new.self)
    (c.in-Err-Pending.is ∙ ap (λ error. Err error) c.in-Err-Pending.field-0-is) c.redeem.ensures in
    one_pending (Fits g.J.Task.meaning) c.args.tickets.now c.loop-place.place ticket c.args.self.now c.loop-place.self c.redeem.new.self (omega (arith, c.loop-place-test.true)) (sym c.index-tickets-place.is)
    c.loop-place.invariant pending
