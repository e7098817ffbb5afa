use Rattle.actor_core.proofs.TurnWords.{Gave, IsInOwing, Some, subst, refl}
use Rattle.base_words.specs.declared.note.OutcomeNote.TheVariants as note
use Rattle.base_words.specs.declared.order.Outcome.TheVariants.{Returned}
use Rattle.actor_core.proofs.Given.{end_back, end_lent, end_owing, gave_on, given_around, given_owed, owed_here}
use Rattle.actor_core.proofs.back.give_back_on.Given.{Over}
use Rattle.actor_core.proofs.back.give_back_on.Goals as goal
use Rattle.actor_core.proofs.back.give_back_on.Goals.{After-give_back}

pub lend_in-requires : goal.lend_in-requires
lend_in-requires g c = record { there = c.requires.owing.has_ins c.args.name.from c.requires.known }

pub give_back-requires-clause-owed : goal.give_back-requires-clause-owed
give_back-requires-clause-owed g c =
    end_lent g.E.Around.reach g.met.E.Around.sides
    (subst (λ owed. IsInOwing c.args.name.from owed c.args.core.now (g.E.Around.reach.sides.inward c.lend_in.result.now)) (owed_here c.args.name (note.Returned c.args.reason))
    (end_owing g.met.E.Around.laws c.args.name (Some (Returned c.args.reason c.args.order)) c.requires.owing c.requires.known c.lend_in.result.now c.lend_in.ensures.value))

-- the outcome is given on the end that was lent
gave : (g : Over) (c : After-give_back g) → Gave g.E.Around.reach c.args.name.number (Some (Returned c.args.reason c.args.order)) (g.E.Around.reach.in_at c.args.own c.args.name.from c.args.around.now) c.give_back.new.end
gave g c = gave_on g.E.Around.reach g.met.E.Around.sides c.args.name.number (Some (Returned c.args.reason c.args.order)) _ c.lend_in.result.now c.give_back.new.end c.lend_in.ensures.value c.give_back.ensures.gives c.give_back.ensures.untouched

pub returns-clause-gives : goal.returns-clause-gives
returns-clause-gives g c = record { end = c.give_back.new.end; gave = gave g (goal.at.returns-clause-gives g c).After-give_back; rest = refl }

pub returns-clause-around : goal.returns-clause-around
returns-clause-around g c =
    given_around g.met.E.Around.laws c.args.name (Some (Returned c.args.reason c.args.order)) c.requires.owing c.requires.known c.give_back.new.end (gave g (goal.at.returns-clause-around g c).After-give_back)
    (end_back g.E.Around.reach g.met.E.Around.sides c.give_back.ensures.beside)

pub returns-clause-owed : goal.returns-clause-owed
returns-clause-owed g c =
    given_owed g.met.E.Around.laws c.args.name (Some (Returned c.args.reason c.args.order)) c.requires.owing c.requires.known c.give_back.new.end (gave g (goal.at.returns-clause-owed g c).After-give_back)
