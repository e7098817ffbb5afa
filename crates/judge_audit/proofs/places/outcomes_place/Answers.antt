use Rattle.judge_audit.proofs.Names.{arith, below_more, OutcomesOf}
use Rattle.judge_audit.proofs.places.outcomes_place.Goals as goal

pub outcomes_line-requires-clause-history : goal.outcomes_line-requires-clause-history
outcomes_line-requires-clause-history c =
    c.requires.histories.each c.loop-actor.actor c.history_of-history.result.now c.history_of-history.ensures

pub loop-actor-preserved : goal.loop-actor-preserved
loop-actor-preserved c =
    below_more (OutcomesOf c.args.assembly.now) c.loop-actor.actor c.loop-actor.invariant (c.outcomes_line.ensures.kept c.in_default.is)

pub returns-in-Some-clause-named : goal.returns-in-Some-clause-named
returns-in-Some-clause-named c = record { within = omega arith; before = c.loop-actor.invariant; here = c.in-Some.ensures.named }

pub returns-clause-kept : goal.returns-clause-kept
returns-clause-kept c =
    λ none.
    record {
      notes = λ actor within. (c.loop-actor.invariant actor (omega arith)).notes;
      all_ended = λ core within. (c.loop-actor.invariant core (omega arith)).all_ended within;
    }
