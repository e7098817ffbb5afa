use Rattle.actor_core.proofs.Posted.{outs_lent, owed_posted, posted_one}
use Rattle.actor_core.proofs.Rooms.{front_known}
use Rattle.actor_core.proofs.polls.post_first.Goals as goal

pub lend_outs-requires : goal.lend_outs-requires
lend_outs-requires g c = record { there = c.requires.rest.beside.has_outs }

pub turn_posting-requires-clause-outs : goal.turn_posting-requires-clause-outs
turn_posting-requires-clause-outs g c = outs_lent c.requires.rest.beside g.met.E.Around.sides c.lend_outs.result.now.items c.lend_outs.ensures.value

pub returns-clause-posts : goal.returns-clause-posts
returns-clause-posts g c =
    posted_one g.met.E.Around.laws c.turn_posting.new.self c.requires.rest.beside g.met.E.Around.sides c.lend_outs.result.now.items c.lend_outs.ensures.value c.turn_posting.new.ends.items (front_known c.requires.rest.recorded c.args.next.now.queue c.args.next.now.name _ c.requires.ahead.front)
    c.turn_posting.ensures.turns

pub returns-clause-owed : goal.returns-clause-owed
returns-clause-owed g c =
    owed_posted g.met.E.Around.laws c.turn_posting.new.self c.requires.rest.beside g.met.E.Around.sides c.lend_outs.result.now.items c.lend_outs.ensures.value c.turn_posting.new.ends.items c.turn_posting.ensures.owed
