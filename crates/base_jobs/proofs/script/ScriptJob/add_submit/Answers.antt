use Rattle.std.proofs.Common.{sym}
use Rattle.base_jobs.specs.declared.poll.Early.TheVariants.{Submits}
use Rattle.base_jobs.proofs.FillLemmas.{with_poll-kept}
use Rattle.base_jobs.proofs.script.ScriptJob.add_submit.Goals as goal

pub returns-clause-polls : goal.returns-clause-polls
returns-clause-polls c =
    rw (← c.self.view_is, c.push.ensures.items)
    (sym (with_poll-kept c.self.inside.yields.items (record { told = c.args.told; does = Submits c.args.core c.args.queue }) c.self.inside.last_told c.self.inside.answer))
