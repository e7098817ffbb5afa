use Rattle.text_journal.proofs.PassesRefused.{refused}
use Rattle.text_journal.proofs.read_laws.bad_passes_are_refused.Goals as goal

pub returns : goal.returns
returns c = refused
