use Rattle.run_worker.proofs.Names.{add-mul, arith, StepsServed, subst, ◌*◌, ◌+◌, ◌∙◌, ◌≡◌, ◌≤◌}
use Rattle.run_worker.proofs.Telling.{steps_found, steps_same}
use Rattle.run_worker.proofs.Heard.{next_heard}
use Rattle.run_worker.proofs.served.Served.deliver_all.Goals.{then-deliver_some, else-deliver_some}
use Rattle.run_worker.proofs.served.Served.deliver_all.Goals as goal

pub loop-sender-preserved : goal.loop-sender-preserved
loop-sender-preserved g c =
    let cap = c.args.self.now.linked.recorded.cap in
    let low : c.loop-sender.sender * (2 * cap) + 2 * c.loop-sender.self.linked.recorded.cap ≤ (c.loop-sender.sender + 1) * (2 * cap) = omega (arith, add-mul c.loop-sender.sender 1 (2 * cap), c.loop-sender.invariant.steps.stays.seat.cap) in
    record {
      steps = elim c.if-deliver_some.branch [
        | then-deliver_some w ↦ rw w.some-is (steps_found _ _ _ c.loop-sender.some c.args.self.now c.loop-sender.self c.deliver_some.new.self low c.loop-sender.invariant.steps (rw w.if-deliver_some.true at c.deliver_some.ensures.steps))
        | else-deliver_some w ↦ rw w.some-is (steps_same _ _ _ c.loop-sender.some c.args.self.now c.loop-sender.self c.deliver_some.new.self low c.loop-sender.invariant.steps (rw w.if-deliver_some.false at c.deliver_some.ensures.steps))
      ];
      hears = next_heard c.loop-sender.sender c.args.self.now c.loop-sender.self c.deliver_some.new.self c.loop-sender.invariant.steps c.deliver_some.ensures.steps c.loop-sender.invariant.hears c.deliver_some.ensures.hears;
      end = c.loop-sender.invariant.end;
      polls = c.deliver_some.ensures.polls ∙ c.loop-sender.invariant.polls;
    }

pub returns-clause-steps : goal.returns-clause-steps
returns-clause-steps g c =
    let all : c.loop-sender.sender ≡ c.args.self.now.linked.recorded.core.cores + 1 = omega (arith, c.loop-sender.auto, c.loop-sender-test.false, c.loop-sender.invariant.end) in
    subst (λ count. StepsServed (count * (2 * c.args.self.now.linked.recorded.cap)) c.args.self.now c.loop-sender.some c.loop-sender.self) all c.loop-sender.invariant.steps
