use Rattle.std.proofs.Common.{sym}
use Rattle.base_jobs.proofs.FillLemmas.{with_last-kept}
use Rattle.base_jobs.proofs.script.ScriptJob.set_last.Goals as goal

pub returns-clause-polls : goal.returns-clause-polls
returns-clause-polls c =
    rw (← c.self.view_is) (sym (with_last-kept c.self.inside.yields.items c.args.told c.args.value c.self.inside.last_told c.self.inside.answer))
