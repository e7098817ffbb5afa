use Rattle.actor_seat.proofs.Names.{Some}
use Rattle.base_words.specs.declared.order.Outcome.TheVariants.{Returned}
use Rattle.actor_seat.proofs.Seen.{gives_seen}
use Rattle.actor_seat.proofs.Stepping.{owing_end, given_beside, given_ends, given_sees}
use Rattle.actor_seat.proofs.seat.give_on.Goals as goal

pub give_back-requires-clause-owed : goal.give_back-requires-clause-owed
give_back-requires-clause-owed g c = owing_end c.requires.owing c.requires.known c.in_mut.ensures.value

pub returns-clause-beside : goal.returns-clause-beside
returns-clause-beside g c = given_beside c.requires.owing c.requires.known c.in_mut.ensures.value c.give_back.new.end c.give_back.ensures.beside c.give_back.ensures.untouched

pub returns-clause-ends : goal.returns-clause-ends
returns-clause-ends g c = given_ends c.requires.owing c.requires.known c.in_mut.ensures.value c.give_back.new.end c.give_back.ensures.beside c.give_back.ensures.untouched

pub returns-clause-sees : goal.returns-clause-sees
returns-clause-sees g c =
    given_sees c.requires.owing c.requires.known c.in_mut.ensures.value c.give_back.new.end c.give_back.ensures.beside c.give_back.ensures.untouched
    (gives_seen c.in_mut.result.now.inward c.args.name.number (Some (Returned c.args.reason c.args.order)) c.give_back.new.end.inward c.give_back.ensures.gives)
