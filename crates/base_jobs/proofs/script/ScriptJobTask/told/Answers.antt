use Rattle.std.proofs.Common.{◌-◌, get_or, Some, ap, ◌∙◌, arith}
use Rattle.base_jobs.proofs.ScriptLemmas.{length-script_polls, time_told-yield, time_told-last}
use Rattle.base_jobs.proofs.script.ScriptJobTask.told.Goals as goal

pub returns-then-self-len : goal.returns-then-self-len
returns-then-self-len c =
    let job = c.self.inside in
    rw (← c.self.view_is)
    (ap (λ yields. Some (get_or yields (job.polled - 1) c.index-deref-place.result).told) c.deref.ensures.0
    ∙ time_told-yield job.yields.items job.last_told job.answer job.polled (job.polled - 1) c.index-deref-place.result (omega arith) (omega arith))

pub returns-else-self-len : goal.returns-else-self-len
returns-else-self-len c =
    let job = c.self.inside in
    rw (← c.self.view_is)
    (time_told-last job.yields.items job.last_told job.answer job.polled (omega (arith, length-script_polls job.yields.items job.last_told job.answer)))
