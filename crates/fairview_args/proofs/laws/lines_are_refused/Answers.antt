use Rattle.fairview_args.proofs.Rows.{refused_rows}
use Rattle.fairview_args.proofs.laws.lines_are_refused.Goals as goal

pub returns : goal.returns
returns c = refused_rows
