use Rattle.host_core.proofs.Asked.{owes_once}
use Rattle.host_core.proofs.job.HostJobJob.poll.Goals as goal

-- the post was asked once, and the step is what it said
pub returns-clause-owed : goal.returns-clause-owed
returns-clause-owed g c = owes_once c.run_ticket.result c.redeem.result c.redeem.ensures.does c.step_heard-step.ensures
