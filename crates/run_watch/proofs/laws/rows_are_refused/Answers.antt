use Rattle.run_watch.proofs.RowsRefused.{rows_refused}
use Rattle.run_watch.proofs.laws.rows_are_refused.Goals as goal

pub returns : goal.returns
returns c = rows_refused
