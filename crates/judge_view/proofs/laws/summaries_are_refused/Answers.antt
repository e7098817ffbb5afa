use Rattle.judge_view.proofs.SummariesRefused.{refused}
use Rattle.judge_view.proofs.laws.summaries_are_refused.Goals as goal

pub returns : goal.returns
returns c = refused
