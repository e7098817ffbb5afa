use Rattle.actor_desk.proofs.Names.{◌≡◌, ◌+◌, ◌-◌, ◌≤◌, length, IsPrefix, Fits, booked, StaysBeside}
use Rattle.actor_desk.proofs.Names.{CollectsFrom}
use Rattle.actor_desk.proofs.recorded_desk.RecordedDesk.collect_from.Given as goal

-- so many outcomes were collected and noted, and there is room for those that the end may still show
abbrev pub invariant-loop-core : goal.invariant-loop-core
invariant-loop-core g l = record {
  stays : StaysBeside (Fits g.J.Task.meaning) l.core l.initial.self l.self (g.O.OutEnd.out l.end) (g.O.OutEnd.credited l.end);
  gathered : CollectsFrom l.core l.initial.self l.count l.self;
  end : g.O.OutEnd.out l.end ≡ record (g.O.OutEnd.out l.initial.end) { seen = (g.O.OutEnd.out l.end).seen; got = (g.O.OutEnd.out l.end).got };
  longer : IsPrefix (g.O.OutEnd.out l.initial.end).seen (g.O.OutEnd.out l.end).seen;
  room : length l.self.journal.notes + length (g.O.OutEnd.out l.end).sent ≤ l.self.journal.room + (g.O.OutEnd.out l.end).got;
  counted : l.count + (g.O.OutEnd.out l.initial.end).got ≡ (g.O.OutEnd.out l.end).got;
  books : booked l.self ≡ booked l.initial.self;
  untouched : g.O.OutEnd.untouched l.end ≡ g.O.OutEnd.untouched l.initial.end;
}

-- the outcomes that were not collected
abbrev pub decreases-loop-core : goal.decreases-loop-core
decreases-loop-core g l = length (g.O.OutEnd.out l.end).sent - (g.O.OutEnd.out l.end).got
