-- Further polls were made, one after another, and the turn is open with room for what is left of it.
use Rattle.std.proofs.Common.{◌-◌, List}
use Rattle.std.specs.Prelude.{IsSome}
use Rattle.base_words.specs.declared.names.JobId.{JobId}
use Rattle.base_words.specs.Bursts.{polls_in_turn}
use Rattle.actor_core.specs.Beside.{IsAtRest, PollsAsOwed}
use Rattle.actor_core.specs.Rooms.{HasRestRoom, open_queue}
use Rattle.actor_core.specs.WholeTurns.{PollsOn, turn_view}
use Rattle.actor_core.proofs.through.poll_on.Given as goal

abbrev pub invariant-loop-next : goal.invariant-loop-next
invariant-loop-next g l = record {
  polls : (polls : List JobId) × PollsOn g.J.Task.meaning g.E.Around.reach l.own g.M.Meter.Tells g.G.Gate.Asked polls (turn_view l.fn.core l.fn.around l.fn.meter l.fn.gate) (turn_view l.core l.around l.meter l.gate);
  rest : IsAtRest g.J.Task.meaning g.E.Around.reach l.own l.core l.around;
  is_open : IsSome (open_queue l.core);
  room : HasRestRoom l.core;
  owed : PollsAsOwed g.J.Task.meaning g.E.Around.reach l.own l.fn.core l.fn.around → PollsAsOwed g.J.Task.meaning g.E.Around.reach l.own l.core l.around;
}

abbrev pub decreases-loop-next : goal.decreases-loop-next
decreases-loop-next g l = l.core.core.bursts.burst - polls_in_turn l.core.journal.notes
