use Rattle.std.proofs.Common.{arith}
use Rattle.actor_core.proofs.Rooms.{poll_left}
use Rattle.actor_core.proofs.polls.poll_further.Goals as goal

pub post_further-settled-requires-clause-room : goal.post_further-settled-requires-clause-room
post_further-settled-requires-clause-room g c =
    let left = poll_left c.requires.rest.recorded c.requires.ahead in
    omega (arith, c.requires.room, left)

pub give_done_on-requires : goal.give_done_on-requires
give_done_on-requires g c =
    assumption (c.post_further-settled.ensures.posts)

pub returns-clause-further : goal.returns-clause-further
returns-clause-further g c = record {
  polls = record { queue = _; started = _; settled = _; between = _; posts = c.post_further-settled.ensures.posts; gives = c.give_done_on.ensures.gives; around = c.give_done_on.ensures.around };
  gate = c.ask-leave.ensures.asked;
}

pub returns-clause-rest : goal.returns-clause-rest
returns-clause-rest g c =
    let noted = c.post_further-settled.ensures.posts.noted in
    record { recorded = noted.sound; free = noted.at_rest; beside = c.give_done_on.ensures.around }

pub returns-clause-owed : goal.returns-clause-owed
returns-clause-owed g c = λ owed. c.give_done_on.ensures.owed (c.post_further-settled.ensures.owed owed)
