use Rattle.fairview_marks.proofs.Escaped.{bare_bracket, bare_tag}
use Rattle.std.proofs.Common.{refl}
use Rattle.fairview_marks.proofs.escape_laws.bare_bytes_are_refused.Goals as goal

pub returns : goal.returns
returns c = record { bracket = bare_bracket; tag = bare_tag; quote = refl; hidden = refl }
