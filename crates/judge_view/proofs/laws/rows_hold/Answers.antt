use Rattle.judge_view.proofs.Rows.{rows}
use Rattle.judge_view.proofs.laws.rows_hold.Goals as goal

pub returns : goal.returns
returns c = rows
