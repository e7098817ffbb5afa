use Rattle.std.proofs.Common.{◌++◌, refl, ap, ◌∙◌, arith}
use Rattle.fairview_report.specs.PollTexts.{head_text}
use Rattle.fairview_report.proofs.RowLemmas.{rows_none}
use Rattle.fairview_report.proofs.poll.PollRows.new.Goals as goal

pub returns : goal.returns
returns c = record {
  cores = refl;
  few = omega arith;
  actor = refl;
  walk = c.new.ensures;
  page = c.in_ok-push_str.ensures.bytes ∙ (ap (λ bytes. bytes ++ head_text) c.new-page.ensures.bytes ∙ rows_none head_text);
}
