use Rattle.std.proofs.Common.{subst}
use Rattle.judge_sink.specs.Judged.{IsJudged}
use Rattle.judge_sink.specs.Judging.{JudgeView}
use Rattle.judge_sink.proofs.Whole.{replayed_judged}
use Rattle.judge_sink.proofs.judge.Judge.is_lawful.Goals as goal

pub returns : goal.returns
returns c = subst (λ (judge : JudgeView). IsJudged judge.terms judge.has) c.self.view_is (replayed_judged _ _ c.self.invariant.right)
