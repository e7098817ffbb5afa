use Rattle.text_journal.proofs.OnlyTexts.{only_texts}
use Rattle.text_journal.proofs.read_laws.only_texts_are_read.Goals as goal

pub returns : goal.returns
returns c = only_texts
