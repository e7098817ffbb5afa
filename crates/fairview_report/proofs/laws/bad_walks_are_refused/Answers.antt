use Rattle.fairview_report.proofs.WalksRefused.{refused}
use Rattle.fairview_report.proofs.laws.bad_walks_are_refused.Goals as goal

pub returns : goal.returns
returns c = refused
