use Rattle.judge_audit.proofs.Names.{arith, below_more, ClosesOf}
use Rattle.judge_audit.proofs.places.closes_place.Goals as goal

pub loop-core-preserved : goal.loop-core-preserved
loop-core-preserved c =
    below_more (ClosesOf c.args.assembly.now) c.loop-core.core c.loop-core.invariant (c.closes_fault.ensures.kept c.in_default.is)

pub returns-in-Some-clause-named : goal.returns-in-Some-clause-named
returns-in-Some-clause-named c = record { within = omega arith; before = c.loop-core.invariant; here = c.in-Some.ensures.named }

pub returns-clause-kept : goal.returns-clause-kept
returns-clause-kept c = λ none. record { notes = λ core within. c.loop-core.invariant core (omega arith) }
