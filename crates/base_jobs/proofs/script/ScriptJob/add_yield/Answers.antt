use Rattle.std.proofs.Common.{sym}
use Rattle.base_jobs.proofs.FillLemmas.{with_yield-kept}
use Rattle.base_jobs.proofs.script.ScriptJob.add_yield.Goals as goal

pub returns-clause-polls : goal.returns-clause-polls
returns-clause-polls c =
    rw (← c.self.view_is, c.push.ensures.items) (sym (with_yield-kept c.self.inside.yields.items c.args.told c.self.inside.last_told c.self.inside.answer))
