use Rattle.std.proofs.Common.{◌≡◌, false}
use Rattle.base_jobs.proofs.example.drive.Given as goal

-- the job at hand has the task of the job handed in, and can be polled
abbrev pub invariant-loop-polled : goal.invariant-loop-polled
invariant-loop-polled g l = record {
  same : g.J.Task.meaning.same l.fn.job l.job;
  undone : g.J.Task.meaning.done l.job ≡ false;
  ready : g.J.Task.meaning.can_poll l.job;
}
