use Rattle.std.proofs.Common.{rules}
use Rattle.text_feed.proofs.front.whole_part.Goals as goal

pub returns-else-is_cut-clause-faulty : goal.returns-else-is_cut-clause-faulty
returns-else-is_cut-clause-faulty c = (
  search rules,
  rw c.in-Err-Faulty.field-0-is at c.in-Err-Faulty.ensures.faulty,
  λ cut. let told = c.if-is_cut.ensures.1 cut in search rules,
)
