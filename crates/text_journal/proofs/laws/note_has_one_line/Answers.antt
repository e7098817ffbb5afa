use Rattle.text_journal.proofs.LineTexts.{one_line}
use Rattle.text_journal.proofs.laws.note_has_one_line.Goals as goal

pub returns : goal.returns
returns c = one_line
