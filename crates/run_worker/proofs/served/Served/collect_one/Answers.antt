use Rattle.run_worker.proofs.Names.{ap, arith, collected_few, IsReady, nat_lt, polls_of, subst, sym, ◌∙◌, ◌≡◌}
use Rattle.run_worker.proofs.Alone.{knows_along}
use Rattle.run_worker.proofs.Between.{between_behind}
use Rattle.run_worker.proofs.Spare.{places_few}
use Rattle.run_worker.proofs.Serving.{collects_served}
use Rattle.run_worker.proofs.Telling.{looked_steps, looked_alone, collected_tells}
use Rattle.run_worker.proofs.Heard.{looked_collects, ended_collects}
use Rattle.run_worker.proofs.Asking.{collects_note_none}
use Rattle.run_worker.proofs.served.Served.collect_one.Goals as goal

pub collect_from-requires-clause-room : goal.collect_from-requires-clause-room
collect_from-requires-clause-room g c =
    let ready = subst (λ ending. IsReady ending c.self.inside.seat.recorded) c.if-self.false (subst (λ view. IsReady view.ending view.linked.recorded) (sym c.self.view_is) c.look.ensures.ready) in
    omega (arith, ready, places_few c.self.inside.seat.recorded.core.cores c.self.inside.seat.recorded.cap)

pub invariant_of-self : goal.invariant_of-self
invariant_of-self g c = (
  rw c.if-self.false (collects_served c.args.core c.collect_from.result c.self.inside.seat c.collect_from.new.self (c.collect_from.ensures.linked c.self.invariant.0.linked)
      (between_behind _ _ c.collect_from.ensures.does.stays (collects_note_none c.args.core c.collect_from.result _ _ c.collect_from.ensures.does) c.self.invariant.0.between) c.collect_from.ensures.does
      (subst (λ ending. IsReady ending c.self.inside.seat.recorded) c.if-self.false (subst (λ view. IsReady view.ending view.linked.recorded) (sym c.self.view_is) c.look.ensures.ready)) (rw c.if-self.false at c.self.invariant.0.acts)),
  knows_along c.self.inside.cores c.self.inside.least c.self.inside.alone c.self.inside.seat c.collect_from.new.self c.collect_from.ensures.does.stays c.self.invariant.1,
)

pub returns-then-self-clause-steps : goal.returns-then-self-clause-steps
returns-then-self-clause-steps g c = looked_alone _ c.args.self.now c.look.new.self c.look.ensures.looks c.look.ensures.stays

pub returns-then-self-clause-collects : goal.returns-then-self-clause-collects
returns-then-self-clause-collects g c = ended_collects c.args.core c.args.self.now c.look.new.self (sym (ap (λ view. view.ending) c.self.view_is) ∙ c.if-self.true)

pub returns-clause-steps : goal.returns-clause-steps
returns-clause-steps g c =
    let cap : c.self.inside.seat.recorded.cap ≡ c.args.self.now.linked.recorded.cap = ap (λ view. view.linked.recorded.cap) c.self.view_is ∙ c.look.ensures.stays.seat.cap in
    let few = collected_few c.args.core c.collect_from.result c.self.inside.seat c.collect_from.new.self c.collect_from.ensures.does in
    looked_steps c.args.self.now.linked.recorded.cap c.args.self.now c.look.new.self (record { linked = c.self.inside.seat; ending = c.self.inside.ending }) c.collect_from.new.self (nat_lt 0 c.collect_from.result) c.self.view_is
    c.look.ensures.looks c.look.ensures.stays c.collect_from.ensures.does.stays (collected_tells c.args.core c.collect_from.result c.self.inside.seat c.collect_from.new.self c.collect_from.ensures.does) (omega (arith, few, cap))

pub returns-clause-collects : goal.returns-clause-collects
returns-clause-collects g c =
    looked_collects c.args.core c.collect_from.result c.args.self.now c.look.new.self (record { linked = c.self.inside.seat; ending = c.self.inside.ending }) c.collect_from.new.self c.self.view_is c.look.ensures.looks
    c.collect_from.ensures.does

pub returns-clause-polls : goal.returns-clause-polls
returns-clause-polls g c =
    collects_note_none c.args.core c.collect_from.result c.self.inside.seat c.collect_from.new.self c.collect_from.ensures.does
    ∙ (ap (λ view. polls_of view.linked.recorded.journal.notes) c.self.view_is ∙ c.look.ensures.polls)
