use Rattle.std.proofs.Common.{◌∙◌}
use Rattle.note_journal.proofs.Given.{only_cores_give}
use Rattle.note_journal.proofs.assembly.Assembly.outcome.Goals as goal

pub returns-clause-outside : goal.returns-clause-outside
returns-clause-outside c = λ spelled no_core. c.first_outcome.ensures.value ∙ only_cores_give c.args.name c.args.self.now spelled no_core
