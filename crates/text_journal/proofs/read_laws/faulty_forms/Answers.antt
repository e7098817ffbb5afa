use Rattle.text_journal.proofs.FaultyForms.{all_faulty}
use Rattle.text_journal.proofs.read_laws.faulty_forms.Goals as goal

pub returns : goal.returns
returns c = all_faulty
