-- The queues that are left make of the model what all of them make of the first one.
use Rattle.std.proofs.Common.{◌≡◌, drop}
use Rattle.fairexec_run.specs.Rooms.{MayMake}
use Rattle.fairexec_run.specs.Transcripts.{with_queues}
use Rattle.fairexec_run.proofs.engine.create_queues.Given as goal

abbrev pub invariant-loop-queue : goal.invariant-loop-queue
invariant-loop-queue l = record {
  made : with_queues (drop l.queue-index l.queues) l.model ≡ with_queues l.queues l.initial.model;
  may : MayMake (drop l.queue-index l.queues) l.model;
  cores : l.model.cores ≡ l.initial.model.cores;
  room : l.model.room ≡ l.initial.model.room;
}
