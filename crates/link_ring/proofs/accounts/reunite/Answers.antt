use Rattle.link_ring.proofs.accounts.reunite.Goals as goal

pub returns-clause-outcomes : goal.returns-clause-outcomes
returns-clause-outcomes g c = c.compare-inward.ensures.outcomes
