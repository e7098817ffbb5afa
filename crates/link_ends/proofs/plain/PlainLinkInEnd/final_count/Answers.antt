use Rattle.std.proofs.Common.{subst}
use Rattle.base_jobs.specs.Ready.{HasReadyJob}
use Rattle.link_ends.specs.Fits.{Fits}
use Rattle.link_ends.specs.Whole.{IsLink}
use Rattle.link_ends.proofs.plain.PlainLinkInEnd.final_count.Goals as goal

pub returns-then-self-clause-law : goal.returns-then-self-clause-law
returns-then-self-clause-law g c = subst (IsLink (Fits g.J.Task.meaning) (HasReadyJob g.J.Task.meaning)) c.self.view_is c.self.invariant.link

pub returns-else-self-clause-law : goal.returns-else-self-clause-law
returns-else-self-clause-law g c = subst (IsLink (Fits g.J.Task.meaning) (HasReadyJob g.J.Task.meaning)) c.self.view_is c.self.invariant.link
