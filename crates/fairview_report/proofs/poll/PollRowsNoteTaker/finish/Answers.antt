use Rattle.std.proofs.Common.{◌∙◌}
use Rattle.fairview_report.specs.PollTexts.{head_text}
use Rattle.fairview_report.proofs.RowLemmas.{rows_end}
use Rattle.fairview_report.proofs.poll.PollRowsNoteTaker.finish.Goals as goal

pub returns : goal.returns
returns c = λ handed last has. has.page ∙ rows_end head_text handed.earlier handed.notes handed.cores handed.cap handed.burst last
