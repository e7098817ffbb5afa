use Rattle.std.proofs.Common.{◌≡◌, ◌-◌, length}
use Rattle.link_ends.specs.Fits.{Fits}
use Rattle.actor_desk.specs.Lanes.{IsLaneOf}
use Rattle.actor_desk.specs.Steps.{CollectsMany}
use Rattle.actor_desk.proofs.lane.Lane.collect.Given as goal

-- the lane belongs to its end, and each outcome that was collected is counted
abbrev pub invariant-loop-count : goal.invariant-loop-count
invariant-loop-count g l = record {
  lane : IsLaneOf (Fits g.J.Task.meaning) l.self (g.O.OutEnd.out l.end) (g.O.OutEnd.credited l.end);
  untouched : g.O.OutEnd.untouched l.end ≡ g.O.OutEnd.untouched l.fn.end;
  many : CollectsMany l.fn.self l.self (g.O.OutEnd.out l.fn.end) (g.O.OutEnd.out l.end) (g.O.OutEnd.credited l.fn.end) (g.O.OutEnd.credited l.end) l.count;
}

-- no more outcomes can be collected than orders were sent
abbrev pub decreases-loop-count : goal.decreases-loop-count
decreases-loop-count g l = length (g.O.OutEnd.out l.end).sent - (g.O.OutEnd.out l.end).got
