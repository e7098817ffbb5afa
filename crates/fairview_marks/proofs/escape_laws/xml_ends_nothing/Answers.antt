use Rattle.fairview_marks.proofs.Escaped.{xml_ends_nothing}
use Rattle.fairview_marks.proofs.escape_laws.xml_ends_nothing.Goals as goal

pub returns : goal.returns
returns c = xml_ends_nothing
