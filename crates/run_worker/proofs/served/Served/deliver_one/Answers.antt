use Rattle.run_worker.proofs.Names.{ap, arith, delivered_few, IsReady, polls_of, subst, sym, ◌∙◌}
use Rattle.run_worker.proofs.Alone.{knows_along}
use Rattle.run_worker.proofs.Between.{between_behind}
use Rattle.run_worker.proofs.Spare.{ready_room}
use Rattle.run_worker.proofs.Serving.{delivers_served}
use Rattle.run_worker.proofs.Telling.{looked_steps, delivered_tells}
use Rattle.run_worker.proofs.Heard.{looked_hears}
use Rattle.run_worker.proofs.Asking.{delivered_notes_none}
use Rattle.run_worker.proofs.served.Served.deliver_one.Goals as goal

pub deliver-requires-clause-room : goal.deliver-requires-clause-room
deliver-requires-clause-room g c =
    omega (arith, ready_room c.self.inside.seat c.self.invariant.0.linked c.self.inside.ending (subst (λ view. IsReady view.ending view.linked.recorded) (sym c.self.view_is) c.look.ensures.ready))

pub invariant_of-self : goal.invariant_of-self
invariant_of-self g c = (
  delivers_served c.args.sender c.deliver.result c.self.inside.ending c.self.inside.seat c.deliver.new.self c.self.invariant.0.linked (c.deliver.ensures.linked c.self.invariant.0.linked) c.self.invariant.0.between
      (between_behind _ _ c.deliver.ensures.does.stays (delivered_notes_none c.args.sender c.deliver.result _ _ c.deliver.ensures.does) c.self.invariant.0.between)
      (omega (arith, c.requires, c.look.ensures.stays.seat.cores, ap (λ view. view.linked.recorded.core.cores) c.self.view_is)) c.deliver.ensures.does
      (subst (λ view. IsReady view.ending view.linked.recorded) (sym c.self.view_is) c.look.ensures.ready) c.self.invariant.0.acts,
  knows_along c.self.inside.cores c.self.inside.least c.self.inside.alone c.self.inside.seat c.deliver.new.self c.deliver.ensures.does.stays c.self.invariant.1,
)

pub returns-clause-steps : goal.returns-clause-steps
returns-clause-steps g c =
    looked_steps 2 c.args.self.now c.look.new.self (record { linked = c.self.inside.seat; ending = c.self.inside.ending }) c.deliver.new.self c.deliver.result c.self.view_is c.look.ensures.looks c.look.ensures.stays c.deliver.ensures.does.stays
    (delivered_tells c.args.sender c.self.inside.seat c.deliver.new.self c.deliver.result c.deliver.ensures.does) (delivered_few c.args.sender c.deliver.result c.self.inside.seat c.deliver.new.self c.deliver.ensures.does)

pub returns-clause-hears : goal.returns-clause-hears
returns-clause-hears g c same =
    looked_hears c.args.sender c.deliver.result c.args.self.now c.look.new.self (record { linked = c.self.inside.seat; ending = c.self.inside.ending }) c.deliver.new.self c.self.view_is c.look.ensures.looks c.deliver.ensures.does same

pub returns-clause-polls : goal.returns-clause-polls
returns-clause-polls g c =
    delivered_notes_none c.args.sender c.deliver.result c.self.inside.seat c.deliver.new.self c.deliver.ensures.does
    ∙ (ap (λ view. polls_of view.linked.recorded.journal.notes) c.self.view_is ∙ c.look.ensures.polls)
