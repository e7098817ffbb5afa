use Rattle.std.proofs.Common.{None}
use Rattle.std.proofs.lemmas.Result.{IfErr-weaker}
use Rattle.text_bytes.proofs.FaultLemmas.{never_read}
use Rattle.text_bytes.proofs.lines.read_text.Goals as goal

pub returns-clause-unread : goal.returns-clause-unread
returns-clause-unread g c = IfErr-weaker c.read_lines.result _ _ (λ fault. never_read (λ source. None) c.read_lines.new.source c.read_lines.new.source fault) c.read_lines.ensures.failed
