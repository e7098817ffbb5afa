use Rattle.std.proofs.Common.{◌∙◌}
use Rattle.judge_view.proofs.waits.JobWalk.into_spans.Goals as goal

pub returns : goal.returns
returns c = λ journal knows. record { waits = c.into_ended.ensures ∙ knows.waits.ended; runs = c.into_ended-2.ensures ∙ knows.runs.ended }
