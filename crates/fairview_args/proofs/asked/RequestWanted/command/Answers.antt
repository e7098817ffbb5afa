use Rattle.fairview_args.proofs.Lines.{our_is_read}
use Rattle.fairview_args.proofs.asked.RequestWanted.command.Goals as goal

pub returns-clause-read : goal.returns-clause-read
returns-clause-read c = our_is_read
