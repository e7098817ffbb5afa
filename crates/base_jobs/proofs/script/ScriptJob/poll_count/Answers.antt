use Rattle.std.proofs.Common.{arith}
use Rattle.base_jobs.proofs.ScriptLemmas.{IsScript-script_polls}
use Rattle.base_jobs.proofs.script.ScriptJob.poll_count.Goals as goal

pub returns-clause-script : goal.returns-clause-script
returns-clause-script c =
    rw (← c.self.view_is) (IsScript-script_polls c.self.inside.yields.items c.self.inside.last_told c.self.inside.answer (omega arith))
