use Rattle.judge_audit.proofs.Names.{arith, below_more, IsInOrder}
use Rattle.judge_audit.proofs.places.order_place.Goals as goal

pub loop-actor-preserved : goal.loop-actor-preserved
loop-actor-preserved c =
    below_more (IsInOrder c.args.assembly.now) c.loop-actor.actor c.loop-actor.invariant (c.order_line.ensures.kept c.in_default.is)

pub returns-in-Some-clause-named : goal.returns-in-Some-clause-named
returns-in-Some-clause-named c = record { within = omega arith; before = c.loop-actor.invariant; here = c.in-Some.ensures.named }

pub returns-clause-kept : goal.returns-clause-kept
returns-clause-kept c =
    λ none.
    record {
      notes = λ actor within. (c.loop-actor.invariant actor (omega arith)).notes;
      deliveries = λ sender core from to. (c.loop-actor.invariant core (omega arith)).deliveries to sender from;
      collections = λ sender core from to. (c.loop-actor.invariant sender (omega arith)).collections core to;
    }
