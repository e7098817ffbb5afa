use Rattle.std.proofs.Common.{[], ◌∷◌, refl}
use Rattle.actor_core.specs.WholeTurns.{turn_view}
use Rattle.actor_core.proofs.Rooms.{fewer_behind_further, open_behind_further, room_behind_further}
use Rattle.actor_core.proofs.through.poll_on.Goals as goal

pub loop-next-init : goal.loop-next-init
loop-next-init g c = record { polls = ([], refl); rest = c.requires.rest; is_open = c.requires.is_open; room = c.requires.room; owed = λ owed. owed }

pub loop-next-preserved : goal.loop-next-preserved
loop-next-preserved g c =
    let was = c.loop-next.invariant in
    let did = c.poll_further.ensures.further in
    record {
      polls = (c.in-Some.next.name ∷ was.polls.0, (turn_view c.loop-next.core c.loop-next.around c.loop-next.meter c.loop-next.gate, was.polls.1, did));
      rest = c.poll_further.ensures.rest;
      is_open = open_behind_further {tells = λ time. g.M.Meter.Tells c.loop-next.meter time c.poll_further.new.meter} {old = c.loop-next.core} {new = c.poll_further.new.core} {before = c.loop-next.around} {after = c.poll_further.new.around} did.polls;
      room = room_behind_further {tells = λ time. g.M.Meter.Tells c.loop-next.meter time c.poll_further.new.meter} {old = c.loop-next.core} {new = c.poll_further.new.core} {before = c.loop-next.around} {after = c.poll_further.new.around} did.polls was.room;
      owed = λ owed. c.poll_further.ensures.owed (was.owed owed);
    }

pub loop-next-smaller : goal.loop-next-smaller
loop-next-smaller g c = fewer_behind_further {tells = λ time. g.M.Meter.Tells c.loop-next.meter time c.poll_further.new.meter} {old = c.loop-next.core} {new = c.poll_further.new.core} {before = c.loop-next.around} {after = c.poll_further.new.around} c.poll_further.ensures.further.polls
