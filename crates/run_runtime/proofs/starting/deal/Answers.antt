use Rattle.std.proofs.Common.{◌∙◌, ◌∷◌, length, refl, sym, ap, arith}
use Rattle.std.specs.Vec.Iter.{into_iter_items}
use Rattle.run_runtime.proofs.Dealt.{dealt_more}
use Rattle.run_runtime.proofs.starting.deal.Goals as goal

pub loop-ends-init : goal.loop-ends-init
loop-ends-init g c =
    let gives = c.into_iter-ends-iterator.ensures.into_iter_gives in
    let left = gives.1 ∙ c.args.all.ok.0 in
    record {
      reserved = omega (arith, ap length c.in_ok-seats.ensures.items, c.in_ok-seats.ensures.capacity, c.len.ensures, left, c.args.all.ok.0);
      ends = rw c.in_ok-seats.ensures.items gives.0;
      clocks = rw c.in_ok-seats.ensures.items refl;
      gates = rw c.in_ok-seats.ensures.items refl;
      sinks = rw c.in_ok-seats.ensures.items refl;
      locals = rw c.in_ok-seats.ensures.items refl;
      some_clocks = c.requires.clocks ∙ sym left;
      some_gates = c.requires.gates ∙ sym left;
      some_sinks = c.requires.sinks ∙ sym left;
      some_locals = c.requires.locals ∙ sym left;
    }

pub loop-ends-preserved : goal.loop-ends-preserved
loop-ends-preserved g c =
    let loop = c.loop-ends in let steps = c.in-Some.ensures.steps in let dealt = c.next_seat-seat.ensures in
    record {
      reserved = omega (arith, loop.invariant.reserved, c.push_reserved.ensures.capacity, ap length c.push_reserved.ensures.items, steps.1);
      ends = rw c.push_reserved.ensures.items (dealt_more (λ seat. seat.ends) loop.seats.items _ c.args.all.items (into_iter_items loop.ends-iterator) (into_iter_items c.next.new.self) loop.invariant.ends
          (steps.0 ∙ ap (λ ends. ends ∷ into_iter_items c.next.new.self) (sym dealt.ends)));
      clocks = rw c.push_reserved.ensures.items (dealt_more (λ seat. seat.clock) loop.seats.items _ c.args.clocks.items loop.clocks.items c.next_seat-seat.new.clocks.items loop.invariant.clocks dealt.clocks);
      gates = rw c.push_reserved.ensures.items (dealt_more (λ seat. seat.gate) loop.seats.items _ c.args.gates.items loop.gates.items c.next_seat-seat.new.gates.items loop.invariant.gates dealt.gates);
      sinks = rw c.push_reserved.ensures.items (dealt_more (λ seat. seat.sink) loop.seats.items _ c.args.sinks.items loop.sinks.items c.next_seat-seat.new.sinks.items loop.invariant.sinks dealt.sinks);
      locals = rw c.push_reserved.ensures.items (dealt_more (λ seat. seat.local) loop.seats.items _ c.args.locals.items loop.locals.items c.next_seat-seat.new.locals.items loop.invariant.locals dealt.locals);
      some_clocks = omega (arith, loop.invariant.some_clocks, ap length dealt.clocks, steps.1);
      some_gates = omega (arith, loop.invariant.some_gates, ap length dealt.gates, steps.1);
      some_sinks = omega (arith, loop.invariant.some_sinks, ap length dealt.sinks, steps.1);
      some_locals = omega (arith, loop.invariant.some_locals, ap length dealt.locals, steps.1);
    }

pub next_seat-seat-requires : goal.next_seat-seat-requires
next_seat-seat-requires g c =
    let loop = c.loop-ends in let steps = c.in-Some.ensures.steps in
    record {
      clocks = omega (arith, loop.invariant.some_clocks, steps.1);
      gates = omega (arith, loop.invariant.some_gates, steps.1);
      sinks = omega (arith, loop.invariant.some_sinks, steps.1);
      locals = omega (arith, loop.invariant.some_locals, steps.1);
    }

pub push_reserved-requires : goal.push_reserved-requires
push_reserved-requires g c = omega (arith, c.loop-ends.invariant.reserved, c.in-Some.ensures.steps.1, c.loop-ends.seats.ok.0)
