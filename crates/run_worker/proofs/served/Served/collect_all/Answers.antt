use Rattle.run_worker.proofs.Names.{add-mul, arith, StepsServed, subst, ◌*◌, ◌+◌, ◌∙◌, ◌≡◌, ◌≤◌}
use Rattle.run_worker.proofs.Telling.{steps_found, steps_same}
use Rattle.run_worker.proofs.Heard.{next_collected}
use Rattle.run_worker.proofs.served.Served.collect_all.Goals.{then-collect_one, else-collect_one}
use Rattle.run_worker.proofs.served.Served.collect_all.Goals as goal

pub loop-core-preserved : goal.loop-core-preserved
loop-core-preserved g c =
    let cap = c.args.self.now.linked.recorded.cap in
    let low : c.loop-core.core * cap + c.loop-core.self.linked.recorded.cap ≤ (c.loop-core.core + 1) * cap = omega (arith, add-mul c.loop-core.core 1 cap, c.loop-core.invariant.steps.stays.seat.cap) in
    record {
      steps = elim c.if-collect_one.branch [
        | then-collect_one w ↦ rw w.some-is (steps_found _ _ _ c.loop-core.some c.args.self.now c.loop-core.self c.collect_one.new.self low c.loop-core.invariant.steps (rw w.if-collect_one.true at c.collect_one.ensures.steps))
        | else-collect_one w ↦ rw w.some-is (steps_same _ _ _ c.loop-core.some c.args.self.now c.loop-core.self c.collect_one.new.self low c.loop-core.invariant.steps (rw w.if-collect_one.false at c.collect_one.ensures.steps))
      ];
      collects = next_collected c.loop-core.core c.loop-core.self c.collect_one.new.self c.collect_one.ensures.steps c.loop-core.invariant.collects c.collect_one.ensures.collects;
      end = c.loop-core.invariant.end;
      polls = c.collect_one.ensures.polls ∙ c.loop-core.invariant.polls;
    }

pub returns-clause-steps : goal.returns-clause-steps
returns-clause-steps g c =
    let all : c.loop-core.core ≡ c.args.self.now.linked.recorded.core.cores = omega (arith, c.loop-core.auto, c.loop-core-test.false, c.loop-core.invariant.end) in
    subst (λ count. StepsServed (count * c.args.self.now.linked.recorded.cap) c.args.self.now c.loop-core.some c.loop-core.self) all c.loop-core.invariant.steps
