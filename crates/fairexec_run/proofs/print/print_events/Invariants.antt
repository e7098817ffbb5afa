-- The events so far have printed their text, and left room for the others.
use Rattle.std.proofs.Common.{◌-◌, length, string_bytes}
use Rattle.text_bytes.specs.Tries.{IsNoFewer}
use Rattle.fairexec_run.specs.Outputs.{WritesAll}
use Rattle.fairexec_run.specs.Rooms.{IsRoomy}
use Rattle.fairexec_run.proofs.print.print_events.Given as goal

abbrev pub invariant-loop-event : goal.invariant-loop-event
invariant-loop-event g l = record {
  writes : WritesAll l.yielded l.initial.model l.model (string_bytes l.initial.page) (string_bytes l.page) (g.S.ByteSink.contents l.initial.sink) (g.S.ByteSink.contents l.sink);
  roomy : IsRoomy l.initial.model.cores l.initial.model.cap l.initial.model.burst (length l.fn.events.items - length l.yielded) l.model;
  tried : IsNoFewer (g.S.ByteSink.tries l.initial.sink) (g.S.ByteSink.tries l.sink);
}
