use Rattle.judge_sink.proofs.Refused.{bad_not, bad_refused}
use Rattle.judge_sink.proofs.laws.bad_are_refused.Goals as goal

pub returns-clause-refused : goal.returns-clause-refused
returns-clause-refused c = bad_refused

pub returns-clause-not : goal.returns-clause-not
returns-clause-not c = bad_not
