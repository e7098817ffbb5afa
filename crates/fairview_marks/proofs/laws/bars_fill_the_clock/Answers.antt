use Rattle.fairview_marks.proofs.LeadLaws.{bars_fill}
use Rattle.fairview_marks.proofs.laws.bars_fill_the_clock.Goals as goal

pub returns : goal.returns
returns c = bars_fill
