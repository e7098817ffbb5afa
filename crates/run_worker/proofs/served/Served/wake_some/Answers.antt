use Rattle.run_worker.proofs.Names.{ap, arith, refl, StepsServed, subst, sym, ◌*◌, ◌+◌, ◌∙◌, ◌≡◌}
use Rattle.run_worker.proofs.Due.{due_all, due_more, due_over, over_none}
use Rattle.run_worker.proofs.Fewer.{not_before}
use Rattle.run_worker.proofs.Telling.{steps_more, steps_none, steps_same}
use Rattle.run_worker.proofs.served.Served.wake_some.Goals as goal

pub loop-count-init : goal.loop-count-init
loop-count-init g c = record {
  steps = steps_none 0 c.args.self.now;
  woken = λ going. (refl, refl);
  cap_is = c.cap-cap.ensures.cap ∙ ap (λ recorded. recorded.cap) c.recorded.ensures.recorded;
  polls = refl;
}

pub loop-count-preserved : goal.loop-count-preserved
loop-count-preserved g c = record {
  steps =
      steps_more (2 * c.loop-count.count) 2 (2 * (c.loop-count.count + 1)) c.loop-count.some c.is_wake-some.result c.args.self.now c.loop-count.self c.wake_next-due.new.self (omega arith) c.loop-count.invariant.steps
      (subst (λ some. StepsServed 2 c.loop-count.self some c.wake_next-due.new.self) (sym c.is_wake-some.ensures) c.wake_next-due.ensures.steps);
  woken = λ going.
      due_more _ _ _ _ _ _ (c.loop-count.invariant.woken (not_before _ _ c.wake_next-due.ensures.steps.ended going)) c.wake_next-due.result _ _ (sym c.is_over.ensures ∙ c.if-is_over.false) (c.wake_next-due.ensures.wakes going);
  cap_is = c.loop-count.invariant.cap_is;
  polls = c.wake_next-due.ensures.polls ∙ c.loop-count.invariant.polls;
}

pub returns-then-is_over-clause-steps : goal.returns-then-is_over-clause-steps
returns-then-is_over-clause-steps g c =
    let over = sym c.is_over.ensures ∙ c.if-is_over.true in
    steps_same (2 * c.loop-count.count) 2 (2 * c.args.self.now.linked.recorded.cap) c.loop-count.some c.args.self.now c.loop-count.self c.wake_next-due.new.self (omega (arith, c.loop-count-test.true, c.loop-count.invariant.cap_is)) c.loop-count.invariant.steps
    (subst (λ some. StepsServed 2 c.loop-count.self some c.wake_next-due.new.self) (over_none c.wake_next-due.result over) c.wake_next-due.ensures.steps)

pub returns-then-is_over-clause-wakes : goal.returns-then-is_over-clause-wakes
returns-then-is_over-clause-wakes g c going =
    due_over _ _ _ _ _ _ (c.loop-count.invariant.woken (not_before _ _ c.wake_next-due.ensures.steps.ended going)) c.wake_next-due.result _ _ (sym c.is_over.ensures ∙ c.if-is_over.true) (c.wake_next-due.ensures.wakes going)

pub returns-clause-steps : goal.returns-clause-steps
returns-clause-steps g c =
    let all : c.loop-count.count ≡ c.args.self.now.linked.recorded.cap = omega (arith, c.loop-count.auto, c.loop-count-test.false, c.loop-count.invariant.cap_is) in
    subst (λ count. StepsServed (2 * count) c.args.self.now c.loop-count.some c.loop-count.self) all c.loop-count.invariant.steps

pub returns-clause-wakes : goal.returns-clause-wakes
returns-clause-wakes g c going =
    let all : c.loop-count.count ≡ c.args.self.now.linked.recorded.cap = omega (arith, c.loop-count.auto, c.loop-count-test.false, c.loop-count.invariant.cap_is) in
    due_all _ _ _ _ _ _ (c.loop-count.invariant.woken going) all
