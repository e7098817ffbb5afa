use Rattle.run_worker.proofs.Names.{ap, arith, BellsView, stays_along, taken_most, ◌*◌, ◌+◌, ◌∙◌, ◌≡◌}
use Rattle.run_worker.proofs.Heard.{heard_behind}
use Rattle.run_worker.proofs.Looked.{shut_behind}
use Rattle.run_worker.proofs.Rung.{since_rung, since_within}
use Rattle.run_worker.proofs.Telling.{steps_more}
use Rattle.run_worker.proofs.served.Served.take_in.Goals as goal

pub ring_since-requires : goal.ring_since-requires
ring_since-requires g c =
    since_within c.args.self.now c.deliver_all-delivered.new.self c.journal.result.now c.journal-2.result.now c.kept_count-before.result c.journal.ensures.journal c.journal-2.ensures.journal c.kept_count-before.ensures.value
    (stays_along _ _ _ c.close_gates-shut.ensures.steps.stays c.deliver_all-delivered.ensures.steps.stays)

pub returns-clause-steps : goal.returns-clause-steps
returns-clause-steps g c =
    let seat = c.close_gates-shut.ensures.steps.stays.seat in
    let same : (c.close_gates-shut.new.self.linked.recorded.core.cores + 1) * (2 * c.close_gates-shut.new.self.linked.recorded.cap)
    ≡ (c.args.self.now.linked.recorded.core.cores + 1) * (2 * c.args.self.now.linked.recorded.cap)
    = ap (λ cores. (cores + 1) * (2 * c.close_gates-shut.new.self.linked.recorded.cap)) seat.cores ∙ ap (λ cap. (c.args.self.now.linked.recorded.core.cores + 1) * (2 * cap)) seat.cap in
    steps_more _ _ (taken_most c.args.self.now) c.close_gates-shut.result c.deliver_all-delivered.result c.args.self.now c.close_gates-shut.new.self c.deliver_all-delivered.new.self (omega (arith, same)) c.close_gates-shut.ensures.steps
    c.deliver_all-delivered.ensures.steps

pub returns-clause-hears : goal.returns-clause-hears
returns-clause-hears g c =
    heard_behind (c.args.self.now.linked.recorded.core.cores + 1) c.args.self.now c.close_gates-shut.new.self c.deliver_all-delivered.new.self c.close_gates-shut.ensures.steps c.deliver_all-delivered.ensures.steps c.close_gates-shut.ensures.taken
    (λ sender low same. c.deliver_all-delivered.ensures.hears.each same sender (omega (arith, low, c.close_gates-shut.ensures.steps.stays.seat.cores)))

pub returns-clause-shuts : goal.returns-clause-shuts
returns-clause-shuts g c =
    shut_behind c.args.spared c.args.self.now.linked c.close_gates-shut.new.self.linked c.deliver_all-delivered.new.self.linked c.close_gates-shut.ensures.steps.stays c.deliver_all-delivered.ensures.steps.stays c.close_gates-shut.ensures.shuts

pub returns-clause-rung : goal.returns-clause-rung
returns-clause-rung g c =
    since_rung c.args.self.now c.deliver_all-delivered.new.self c.journal.result.now c.journal-2.result.now c.kept_count-before.result c.journal.ensures.journal c.journal-2.ensures.journal c.kept_count-before.ensures.value
    (stays_along _ _ _ c.close_gates-shut.ensures.steps.stays c.deliver_all-delivered.ensures.steps.stays) c.args.bells.now c.ring_since.new.bells c.requires.rung (ap (λ (bells : BellsView). bells.rings) c.ring_since.ensures)
