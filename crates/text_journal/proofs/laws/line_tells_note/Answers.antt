use Rattle.text_journal.proofs.LineTexts.{line_tells}
use Rattle.text_journal.proofs.laws.line_tells_note.Goals as goal

pub returns : goal.returns
returns c = line_tells
