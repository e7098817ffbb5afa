use Rattle.judge_audit.proofs.OneVerdict.{one_verdict}
use Rattle.judge_audit.proofs.laws.one_verdict_holds.Goals as goal

pub returns : goal.returns
returns c = one_verdict
