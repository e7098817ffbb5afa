use Rattle.text_journal.proofs.ReadBack.{read_back}
use Rattle.text_journal.proofs.read_laws.text_is_read_back.Goals as goal

pub returns : goal.returns
returns c = read_back
