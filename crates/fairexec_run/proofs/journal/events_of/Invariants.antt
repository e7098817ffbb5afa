-- The events so far stand as events of the model.
use Rattle.std.proofs.Common.{◌≡◌}
use Rattle.std.specs.Prelude.{map}
use Rattle.fairexec_run.specs.Replies.{event_of}
use Rattle.fairexec_run.proofs.journal.events_of.Given as goal

abbrev pub invariant-loop-event : goal.invariant-loop-event
invariant-loop-event l = l.all.items ≡ map event_of l.yielded
