use Rattle.fairview_marks.proofs.Escaped.{json_never_ends, json_printed}
use Rattle.fairview_marks.proofs.escape_laws.json_ends_nothing.Goals as goal

pub returns : goal.returns
returns c = record { ends = json_never_ends; printed = json_printed }
