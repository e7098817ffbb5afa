use Rattle.run_worker.proofs.Names.{inl, inr, refl}
use Rattle.run_worker.proofs.rounds.Rounds.round.Goals as goal

pub returns-then-turn_alone-clause-makes : goal.returns-then-turn_alone-clause-makes
returns-then-turn_alone-clause-makes g c = inl (refl, rw c.if-turn_alone.true at c.turn_alone.ensures.alone)

pub returns-then-has_nothing-clause-makes : goal.returns-then-has_nothing-clause-makes
returns-then-has_nothing-clause-makes g c =
    let idle = c.if-has_nothing.true in
    inr (_, rw c.if-turn_alone.false at c.turn_alone.ensures.alone, (_, c.has_nothing.ensures.peeks, inr (c.has_nothing.ensures.idle idle, c.has_nothing.ensures.none_due idle, c.has_nothing.ensures.no_turn idle, refl, refl)))

pub returns-clause-makes : goal.returns-clause-makes
returns-clause-makes g c = inr (_, rw c.if-turn_alone.false at c.turn_alone.ensures.alone, (_, c.has_nothing.ensures.peeks, inl c.look_again.ensures.all))
