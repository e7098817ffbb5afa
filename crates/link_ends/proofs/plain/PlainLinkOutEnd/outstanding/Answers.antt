use Rattle.std.proofs.Common.{subst}
use Rattle.base_jobs.specs.Ready.{HasReadyJob}
use Rattle.link_ends.specs.Fits.{Fits}
use Rattle.link_ends.specs.Whole.{IsLink}
use Rattle.link_ends.proofs.plain.PlainLinkOutEnd.outstanding.Goals as goal

pub returns-clause-law : goal.returns-clause-law
returns-clause-law g c = subst (IsLink (Fits g.J.Task.meaning) (HasReadyJob g.J.Task.meaning)) c.self.view_is c.self.invariant.link
