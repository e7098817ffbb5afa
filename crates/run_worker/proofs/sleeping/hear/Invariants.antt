use Rattle.run_worker.proofs.Names.{drop, HearsNotes, Timers}
use Rattle.run_worker.proofs.sleeping.hear.Given as goal

abbrev pub invariant-loop-note : goal.invariant-loop-note
invariant-loop-note g l =
    (after : Timers) → HearsNotes g.J.Task.sleeps l.core.queues l.reading (drop l.note-index l.notes) l.timers after → HearsNotes g.J.Task.sleeps l.fn.core.queues l.fn.reading l.fn.notes l.fn.timers after
