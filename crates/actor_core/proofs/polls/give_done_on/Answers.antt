use Rattle.actor_core.proofs.TurnWords.{Gave, outcome_settled, refl}
use Rattle.actor_core.proofs.Given.{end_back, end_lent, end_owing, gave_on, given_around, given_owed}
use Rattle.actor_core.proofs.polls.give_done_on.Given.{Over}
use Rattle.actor_core.proofs.polls.give_done_on.Goals as goal
use Rattle.actor_core.proofs.polls.give_done_on.Goals.{After-give_done}

pub lend_in-requires : goal.lend_in-requires
lend_in-requires g c = record { there = c.requires.owing.has_ins c.args.name.from c.requires.known }

pub give_done-requires-clause-owed : goal.give_done-requires-clause-owed
give_done-requires-clause-owed g c =
    end_lent g.E.Around.reach g.met.E.Around.sides (end_owing g.met.E.Around.laws c.args.name (outcome_settled c.args.settled.now) c.requires.owing c.requires.known c.lend_in.result.now c.lend_in.ensures.value)

-- the outcome is given on the end that was lent
gave : (g : Over) (c : After-give_done g) → Gave g.E.Around.reach c.args.name.number (outcome_settled c.args.settled.now) (g.E.Around.reach.in_at c.args.own c.args.name.from c.args.around.now) c.give_done.new.end
gave g c = gave_on g.E.Around.reach g.met.E.Around.sides c.args.name.number (outcome_settled c.args.settled.now) _ c.lend_in.result.now c.give_done.new.end c.lend_in.ensures.value c.give_done.ensures.gives c.give_done.ensures.untouched

pub returns-clause-gives : goal.returns-clause-gives
returns-clause-gives g c = record { end = c.give_done.new.end; gave = gave g (goal.at.returns-clause-gives g c).After-give_done; rest = refl }

pub returns-clause-around : goal.returns-clause-around
returns-clause-around g c =
    given_around g.met.E.Around.laws c.args.name (outcome_settled c.args.settled.now) c.requires.owing c.requires.known c.give_done.new.end (gave g (goal.at.returns-clause-around g c).After-give_done)
    (end_back g.E.Around.reach g.met.E.Around.sides c.give_done.ensures.beside)

pub returns-clause-owed : goal.returns-clause-owed
returns-clause-owed g c =
    given_owed g.met.E.Around.laws c.args.name (outcome_settled c.args.settled.now) c.requires.owing c.requires.known c.give_done.new.end (gave g (goal.at.returns-clause-owed g c).After-give_done)
