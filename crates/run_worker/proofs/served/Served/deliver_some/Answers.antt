use Rattle.run_worker.proofs.Names.{ap, arith, HearsOne, lt-ltb, nat_lt, refl, StepsServed, subst, sym, ◌*◌, ◌+◌, ◌∙◌, ◌≡◌}
use Rattle.run_worker.proofs.Telling.{steps_none, steps_found, steps_same}
use Rattle.run_worker.proofs.Heard.{none_heard, one_more_heard, none_left, all_heard}
use Rattle.run_worker.proofs.served.Served.deliver_some.Goals as goal

pub deliver_one-requires : goal.deliver_one-requires
deliver_one-requires g c = omega (arith, c.requires, c.loop-count.invariant.steps.stays.seat.cores)

pub loop-count-init : goal.loop-count-init
loop-count-init g c = record {
  steps = steps_none 0 c.args.self.now;
  many = none_heard c.args.sender c.args.self.now;
  cap_is = c.cap-cap.ensures.cap ∙ ap (λ recorded. recorded.cap) c.recorded.ensures.recorded;
  polls = refl;
}

pub returns-then-not-deliver_one-clause-steps : goal.returns-then-not-deliver_one-clause-steps
returns-then-not-deliver_one-clause-steps g c =
    steps_same (2 * c.loop-count.count) 2 (2 * c.args.self.now.linked.recorded.cap) (nat_lt 0 c.loop-count.count) c.args.self.now c.loop-count.self c.deliver_one.new.self
    (omega (arith, c.loop-count-test.true, c.loop-count.invariant.cap_is)) c.loop-count.invariant.steps
    (subst (λ found. StepsServed 2 c.loop-count.self found c.deliver_one.new.self) c.if-not-deliver_one.true c.deliver_one.ensures.steps)

pub returns-then-not-deliver_one-clause-hears : goal.returns-then-not-deliver_one-clause-hears
returns-then-not-deliver_one-clause-hears g c =
    none_left c.args.sender c.loop-count.count c.args.self.now c.loop-count.self c.deliver_one.new.self c.loop-count.invariant.steps.ended c.deliver_one.ensures.steps.ended c.loop-count.invariant.many
    (λ same. subst (λ found. HearsOne c.args.sender c.loop-count.self.linked found c.deliver_one.new.self.linked) c.if-not-deliver_one.true (c.deliver_one.ensures.hears same))

pub loop-count-preserved : goal.loop-count-preserved
loop-count-preserved g c = record {
  steps =
      subst (λ some. StepsServed (2 * (c.loop-count.count + 1)) c.args.self.now some c.deliver_one.new.self) (sym (lt-ltb 0 (c.loop-count.count + 1) (omega arith)))
      (steps_found (2 * c.loop-count.count) 2 _ (nat_lt 0 c.loop-count.count) c.args.self.now c.loop-count.self c.deliver_one.new.self (omega arith) c.loop-count.invariant.steps
      (subst (λ found. StepsServed 2 c.loop-count.self found c.deliver_one.new.self) c.if-not-deliver_one.false c.deliver_one.ensures.steps));
  many =
      one_more_heard c.args.sender c.loop-count.count c.args.self.now c.loop-count.self c.deliver_one.new.self c.loop-count.invariant.steps.ended c.deliver_one.ensures.steps.ended c.loop-count.invariant.many
      (λ same. subst (λ found. HearsOne c.args.sender c.loop-count.self.linked found c.deliver_one.new.self.linked) c.if-not-deliver_one.false (c.deliver_one.ensures.hears same));
  cap_is = c.loop-count.invariant.cap_is;
  polls = c.deliver_one.ensures.polls ∙ c.loop-count.invariant.polls;
}

pub returns-clause-steps : goal.returns-clause-steps
returns-clause-steps g c =
    let all : c.loop-count.count ≡ c.cap-cap.result = omega (arith, c.loop-count.auto, c.loop-count-test.false) in
    subst (λ most. StepsServed (2 * most) c.args.self.now (nat_lt 0 c.cap-cap.result) c.loop-count.self) c.loop-count.invariant.cap_is
    (subst (λ count. StepsServed (2 * count) c.args.self.now (nat_lt 0 count) c.loop-count.self) all c.loop-count.invariant.steps)

pub returns-clause-hears : goal.returns-clause-hears
returns-clause-hears g c =
    let all : c.loop-count.count ≡ c.cap-cap.result = omega (arith, c.loop-count.auto, c.loop-count-test.false) in
    all_heard c.args.sender c.loop-count.count c.args.self.now c.loop-count.self (all ∙ c.loop-count.invariant.cap_is) c.loop-count.invariant.many
