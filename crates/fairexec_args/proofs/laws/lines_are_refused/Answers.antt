use Rattle.fairexec_args.proofs.Rows.{refused_rows}
use Rattle.fairexec_args.proofs.laws.lines_are_refused.Goals as goal

pub returns : goal.returns
returns c = refused_rows
