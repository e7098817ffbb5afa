use Rattle.fairview_args.proofs.Rows.{asked_rows}
use Rattle.fairview_args.proofs.laws.lines_are_asked.Goals as goal

pub returns : goal.returns
returns c = asked_rows
