use Rattle.text_journal.proofs.FirstLines.{lines_tell}
use Rattle.text_journal.proofs.read_laws.first_lines_tell.Goals as goal

pub returns : goal.returns
returns c = lines_tell
