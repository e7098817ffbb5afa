use Rattle.actor_seat.proofs.Names.{arith, Err, Ok, subst, SubmitsOn, ◌∙◌, ◌≡◌}
use Rattle.base_words.specs.declared.order.Order.TheVariants.{Wake}
use Rattle.actor_seat.proofs.Along.{stays_along}
use Rattle.actor_seat.proofs.OwnWakes.{wake_refused, wake_sent}
use Rattle.actor_seat.proofs.seat.Seat.wake_own.Given.{Over}
use Rattle.actor_seat.proofs.seat.Seat.wake_own.Goals as goal
use Rattle.actor_seat.proofs.seat.Seat.wake_own.Goals.{After-own, After-submit}

-- the wake is for the core itself
to_itself : (g : Over) (c : After-own g) → c.own.inside.0 ≡ c.args.self.now.recorded.core.core
to_itself g c = c.own.view_is ∙ c.actor.ensures

pub submit-requires-clause-known : goal.submit-requires-clause-known
submit-requires-clause-known g c = omega (arith, c.recorded-seated.ensures.seated.recorded.kept.is_core, to_itself g (goal.at.submit-requires-clause-known g c).After-own)

pub returns-in_default-clause-wakes : goal.returns-in_default-clause-wakes
returns-in_default-clause-wakes g c =
    wake_refused c.args.job c.args.self.now c.submit.new.self c.in_default.field-0
    (subst (λ own. SubmitsOn own (Wake c.args.job.from c.args.job.number) c.args.self.now (Err c.in_default.field-0) c.submit.new.self) (to_itself g (goal.at.returns-in_default-clause-wakes g c).After-own) c.in_default.ensures.does)

pub returns-clause-wakes : goal.returns-clause-wakes
returns-clause-wakes g c =
    wake_sent c.args.job c.args.self.now c.detach-done.new.self g.J.Task.meaning c.submit.new.self c.in-Ok.ticket c.detach-done.result
    (subst (λ own. SubmitsOn own (Wake c.args.job.from c.args.job.number) c.args.self.now (Ok c.in-Ok.ticket) c.submit.new.self) (to_itself g (goal.at.returns-clause-wakes g c).After-own) c.in-Ok.ensures.does)
    c.detach-done.ensures.does c.submit.ensures.seated

pub returns-clause-stays : goal.returns-clause-stays
returns-clause-stays g c = stays_along c.args.self.now c.submit.new.self c.detach-done.new.self c.in-Ok.ensures.does.stays c.detach-done.ensures.does.stays
