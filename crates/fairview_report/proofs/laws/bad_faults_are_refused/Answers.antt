use Rattle.fairview_report.proofs.FaultsRefused.{refused}
use Rattle.fairview_report.proofs.laws.bad_faults_are_refused.Goals as goal

pub returns : goal.returns
returns c = refused
