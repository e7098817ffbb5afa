use Rattle.fairview_marks.proofs.LeadLaws.{leads_within}
use Rattle.fairview_marks.proofs.laws.leads_are_bounded.Goals as goal

pub returns : goal.returns
returns c = leads_within
