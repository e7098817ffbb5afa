use Rattle.judge_audit.proofs.FirstRules.{one_first}
use Rattle.judge_audit.proofs.laws.one_rule_is_first.Goals as goal

pub returns : goal.returns
returns c = one_first
